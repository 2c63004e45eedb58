use Rattle.std.proofs.Common.{◌≡◌}
use Rattle.logs.specs.Logs.{state_of}
use Rattle.policies.specs.Probes.{room}
use Rattle.policies.proofs.Highs.{Probing}
use Rattle.policies.proofs.probe.probe.Given as goal

abbrev pub invariant-loop-touch : goal.invariant-loop-touch
invariant-loop-touch g l =
    (l.survey.gauge ≡ l.initial.survey.gauge) ×
    Probing (g.G.Gauge.meaning l.initial.survey.gauge).reading (state_of l.initial.survey.log) (g.P.Paper.said l.initial.paper) (state_of l.survey.log) (g.P.Paper.said l.paper)

abbrev pub decreases-loop-touch : goal.decreases-loop-touch
decreases-loop-touch g l = room (state_of l.survey.log)
