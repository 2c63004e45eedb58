-- What a walk over the gaps keeps.
use Rattle.std.specs.Prelude.{◌≡◌, ℕ, ◌+◌, ◌*◌, ◌<◌, ◌≤◌, cond, List, [], ◌∷◌, map, length, take, drop, ℤ, pos, ◌+ℤ◌, Some, None, Option, nat_le, slice_index_or, unsigned_abs}
use Rattle.std.specs.Int.{int_min}
use Rattle.std.specs.List.{AllByRecursion}
use Rattle.terms.specs.Limits.{last_max, slope_max, highest_height}
use Rattle.caps.specs.declared.Touch.{Touch}
use Rattle.caps.specs.declared.Line.{Line}
use Rattle.caps.specs.declared.Summit.{Summit}
use Rattle.caps.specs.Touches.{Sound}
use Rattle.caps.specs.Stretches.{summit_of}
use Rattle.caps.specs.Caps.{cap}
use Rattle.caps.specs.Gaps.{gaps_from}
use Rattle.caps.specs.Crossings.{rise, fall}

-- the farthest from 0 that a line through a touch stands at position 0
abbrev pub line_max : ℕ
line_max = slope_max * last_max + unsigned_abs highest_height

-- the least of f over a list; where it is empty, the greatest number that 32 bits hold
abbrev pub lowest : {X : Type 0} → (X → ℤ) → List X → ℤ
lowest f [] = pos 2147483647
lowest f (x ∷ xs) = int_min (f x) (lowest f xs)

-- the summits of the gaps from lo on, beside the touches rs of all touches ts
abbrev pub summits_from : Line → List Touch → ℕ → List Touch → List Summit
summits_from line ts lo rs = map (summit_of (cap line ts)) (gaps_from line.last lo rs)

-- the summits of all gaps, from the lowest gap on
abbrev pub summits : Line → List Touch → List Summit
summits line ts = summits_from line ts 0 ts

-- the far end of the strip from lo on, below the line that rises from left; none where lo is past the last position
abbrev pub strip_of : Line → ℤ → ℕ → Option Summit
strip_of line left lo = cond (nat_le lo line.last) (Some (record { cap = (left +ℤ pos (line.slope * line.last)) +ℤ pos line.slack; place = line.last })) None

-- the table holds, for each place, the least of height + slope × position over the touches from there on
pub record Falls (line : Line) (ts : List Touch) (falls : List ℤ) : Type 0 where
  pub long : length ts ≤ length falls
  pub are : (i : ℕ) → i < length ts → slice_index_or falls i (pos 0) ≡ lowest (fall line.slope) (drop i ts)

-- a walk over the gaps has passed the touches before the place `at` and stands at the position `from`
pub record Walking (line : Line) (ts : List Touch) (falls : List ℤ) (at from : ℕ) (left : ℤ) : Type 0 where
  pub sound : Sound line ts
  pub some : 0 < length ts
  pub table : Falls line ts falls
  pub within : at ≤ length ts
  pub left_is : left ≡ lowest (rise line.slope) (take at ts)
  pub before : AllByRecursion (λ t. t.position < from) (take at ts)
  pub after : AllByRecursion (λ t. from ≤ t.position) (drop at ts)
  pub near : from ≤ line.last + 1
