use Rattle.std.proofs.Common.{drop, vec_items}
use Rattle.envelope.specs.Rest.{rest}
use Rattle.stretches.proofs.Walked.{Told}
use Rattle.stretches.proofs.spans.spans_beside.Given as goal

abbrev pub invariant-loop-touch : goal.invariant-loop-touch
invariant-loop-touch l = Told l.seen.line l.seen.touches.now l.from (drop l.touch-index l.seen.touches.now) (rest l.gaps) (vec_items l.spans)
