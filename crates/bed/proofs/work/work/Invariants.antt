use Rattle.std.proofs.Common.{◌≡◌, ◌++◌, length, take, drop}
use Rattle.surveys.specs.Moments.{moment, answers_to}
use Rattle.logs.specs.Logs.{state_of}
use Rattle.bed.proofs.work.work.Given as goal

abbrev pub invariant-loop-i : goal.invariant-loop-i
invariant-loop-i g l =
    let R = (g.G.Gauge.meaning l.initial.survey.gauge).reading in
    let s = state_of l.initial.survey.log in
    let cs = take (length l.initial.answers) l.calls in
    (l.survey.gauge ≡ l.initial.survey.gauge) ×
    (state_of l.survey.log ≡ moment R s cs l.i) ×
    (l.answers ≡ take l.i (answers_to R s cs) ++ drop l.i l.initial.answers)
