use Rattle.std.proofs.Common.{◌≡◌, ℕ, ◌<◌, false, not}
use Rattle.heights.specs.Heights.{height_at, allowed}
use Rattle.heights.proofs.law.Sheet.find_outside.Given as goal

abbrev pub invariant-loop-p : goal.invariant-loop-p
invariant-loop-p g l = (k : ℕ) → k < l.p → not (allowed (height_at (g.H.Heights.list l.self.heights.now) k)) ≡ false
