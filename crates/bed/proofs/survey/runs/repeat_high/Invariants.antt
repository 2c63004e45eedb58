use Rattle.std.proofs.Common.{◌≡◌, ◌-◌, ◌≤◌}
use Rattle.surveys.specs.Calls.{run_on}
use Rattle.logs.specs.Logs.{state_of}
use Rattle.bed.proofs.survey.runs.repeat_high.Given as goal

abbrev pub invariant-loop-position : goal.invariant-loop-position
invariant-loop-position g l =
    let R = (g.G.Gauge.meaning l.gauge).reading in
    (l.made ≤ l.budget) × (run_on R (state_of l.initial.log) 0 l.budget ≡ run_on R (state_of l.log) l.made (l.budget - l.made))

abbrev pub decreases-loop-position : goal.decreases-loop-position
decreases-loop-position g l = l.budget - l.made
