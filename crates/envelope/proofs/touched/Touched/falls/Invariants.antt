use Rattle.std.proofs.Common.{◌≡◌, ℕ, ◌<◌, ◌≤◌, length, get_or, drop, pos}
use Rattle.terms.specs.Limits.{touches_max}
use Rattle.caps.specs.Crossings.{fall}
use Rattle.envelope.specs.Walks.{lowest}
use Rattle.envelope.proofs.touched.Touched.falls.Given as goal

abbrev pub invariant-loop-i : goal.invariant-loop-i
invariant-loop-i l =
    (l.low ≡ lowest (fall l.self.line.slope) (drop l.i l.self.touches.now)) ×
    ((k : ℕ) → l.i ≤ k → k < length l.self.touches.now → get_or l.falls k (pos 0) ≡ lowest (fall l.self.line.slope) (drop k l.self.touches.now)) ×
    (length l.falls ≡ touches_max)
