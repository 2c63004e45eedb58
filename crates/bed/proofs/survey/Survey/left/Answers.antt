use Rattle.std.proofs.Common.{Result, ap, ◌∙◌}
use Rattle.terms.specs.declared.refusal.Refusal.{Refusal}
use Rattle.caps.specs.declared.Touch.{Touch}
use Rattle.surveys.specs.Calls.{Outcome}
use Rattle.logs.specs.Logs.{state_of}
use Rattle.bed.specs.Seeking.{sought}
use Rattle.bed.proofs.Touching.{sought_left}
use Rattle.bed.proofs.survey.Survey.left.Goals as goal

pub returns-clause-state : goal.returns-clause-state
returns-clause-state g c =
    let R = (g.G.Gauge.meaning c.args.self.now.gauge).reading in
    let s = state_of c.args.self.now.log in
    c.seek.ensures.state ∙ ap (λ (o : Outcome (Result Touch Refusal)). o.after) (ap (sought R s) c.left_aim-aim.ensures.is ∙ sought_left R s)
