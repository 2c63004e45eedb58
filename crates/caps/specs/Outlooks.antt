-- Floor, ceiling and the places to touch; before the first touch there are none.
use Rattle.std.specs.Prelude.{ℕ, Bool, false, List, [], ◌∷◌, ℤ, pos, ◌+ℤ◌, Some, None, Option, int_le}
use Rattle.pick.specs.Picks.{picked}
use Rattle.caps.specs.declared.Touch.{Touch}
use Rattle.caps.specs.declared.Line.{Line}
use Rattle.caps.specs.declared.Summit.{Summit}
use Rattle.caps.specs.declared.Outlook.{Outlook}
use Rattle.caps.specs.Stretches.{Stretch, summit_of}
use Rattle.caps.specs.Caps.{cap, ceiling, floor}
use Rattle.caps.specs.Gaps.{mapped, high_summit, lowest_gap_above}

-- the floor with its position, where something is touched: the pick of the touches by height
abbrev pub floor_touch : List Touch → Option Touch
floor_touch ts = picked (λ t. t.height) ts

-- what the touches a and ts tell
abbrev pub seen : Line → Touch → List Touch → Outlook
seen line a ts = record { floor = floor a ts; ceiling = ceiling line (a ∷ ts); summit = high_summit line (a ∷ ts) }

-- floor, ceiling and the untouched position of largest cap; before the first touch there is neither floor nor ceiling
abbrev pub outlook : Line → List Touch → Option Outlook
outlook line [] = None
outlook line (a ∷ ts) = Some (seen line a ts)

-- floor + tolerance
abbrev pub bound : Outlook → ℕ → ℤ
bound o tolerance = o.floor.height +ℤ pos tolerance

-- settled: something is touched, and ceiling ≤ floor + tolerance
abbrev pub settled_by : Option Outlook → ℕ → Bool
settled_by None tolerance = false
settled_by (Some o) tolerance = int_le o.ceiling (bound o tolerance)

abbrev pub is_settled : Line → List Touch → ℕ → Bool
is_settled line ts tolerance = settled_by (outlook line ts) tolerance

-- the lowest open gap: the lowest whose largest cap exceeds floor + tolerance
abbrev pub open_from : Line → List Touch → ℕ → Option Outlook → Option Stretch
open_from line ts tolerance None = None
open_from line ts tolerance (Some o) = lowest_gap_above line ts (bound o tolerance)

abbrev pub lowest_open : Line → List Touch → ℕ → Option Stretch
lowest_open line ts tolerance = open_from line ts tolerance (outlook line ts)

-- where left touches: the position of largest cap in the lowest open gap, the lowest on a tie, with its cap
abbrev pub open_summit : Line → List Touch → ℕ → Option Summit
open_summit line ts tolerance = mapped (summit_of (cap line ts)) (lowest_open line ts tolerance)
