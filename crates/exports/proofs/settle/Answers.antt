use Rattle.std.proofs.Common.{length, ap, ◌∙◌}
use Rattle.surveys.specs.States.{State}
use Rattle.logs.specs.Logs.{state_of}
use Rattle.certificates.specs.Verdict.{verdict_on, left_by_survey}
use Rattle.exports.specs.Exports.{settling}
use Rattle.exports.proofs.settle.Goals as goal

pub returns : goal.returns
unfolding settling
returns g c =
    let same = ap state_of c.log.ensures ∙ c.run.ensures.state in
    record {
      answer = c.certify.ensures.answer ∙ ap (λ (s : State). verdict_on s (length c.args.buffer.now)) same;
      bytes = c.certify.ensures.bytes ∙ ap (λ (s : State). left_by_survey s c.args.buffer.now) same;
    }
