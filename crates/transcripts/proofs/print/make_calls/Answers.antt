use Rattle.std.proofs.Common.{◌≡◌, length, ap, ◌∙◌, arith}
use Rattle.surveys.specs.States.{opened}
use Rattle.surveys.specs.Moments.{answers_to}
use Rattle.logs.specs.Logs.{state_of}
use Rattle.transcripts.proofs.Given.{answers_given}
use Rattle.transcripts.proofs.print.make_calls.Goals as goal

pub returns : goal.returns
returns g c =
    let m = g.G.Gauge.meaning c.args.gauge in
    let set = c.start.result in
    let calls = c.args.calls.now in
    let long : length c.work_through-survey.new.answers ≡ length c.args.calls.now = omega arith in
    answers_given m set calls c.args.answers.now c.work_through-survey.new.answers (state_of c.work_through-survey.result.log) c.requires long c.work_through-survey.ensures.law
    ∙ ap (λ t. answers_to m.reading (opened m t set.limit) calls) c.start.ensures.0
    ∙ ap (λ l. answers_to m.reading (opened m 0 l) calls) c.start.ensures.1
