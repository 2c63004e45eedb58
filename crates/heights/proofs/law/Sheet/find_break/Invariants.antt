use Rattle.std.proofs.Common.{◌≡◌, ℕ, ◌<◌, false, is_some}
use Rattle.heights.specs.Heights.{partner}
use Rattle.heights.proofs.Pairs.{Bounds}
use Rattle.heights.proofs.law.Sheet.find_break.Given as goal

abbrev pub invariant-loop-later : goal.invariant-loop-later
invariant-loop-later g l =
    ((k : ℕ) → k < l.later → is_some (partner l.self.bound.slope l.self.bound.slack (g.H.Heights.list l.self.heights.now) k) ≡ false)
    × Bounds l.self.bound.slope (g.H.Heights.list l.self.heights.now) l.later l.so_far.greatest l.so_far.least
