-- Caps, the ceiling and the floor, and the sheets that the touches leave possible.
use Rattle.std.specs.Prelude.{◌≡◌, ℕ, ◌+◌, ◌-◌, ◌*◌, ◌/◌, ◌≤◌, cond, List, [], ◌∷◌, map, length, ℤ, pos, ◌+ℤ◌, ◌≤ℤ◌, ◌==◌, slice_index_or}
use Rattle.std.specs.Int.{int_min}
use Rattle.std.specs.List.{ContainsAt as Has, AllByRecursion}
use Rattle.pick.specs.Picks.{first_highest}
use Rattle.terms.specs.Meaning.{distance, Keeps}
use Rattle.caps.specs.declared.Touch.{Touch}
use Rattle.caps.specs.declared.Line.{Line}
use Rattle.caps.specs.Touches.{InOrder}
use Rattle.caps.specs.Stretches.{whole, positions, top}

-- the smallest f of a and the items after it
abbrev pub least : {X : Type 0} → (X → ℤ) → X → List X → ℤ
least f a [] = f a
least f a (b ∷ xs) = int_min (f a) (least f b xs)

-- the height of the touch at x, or z where x is untouched
abbrev pub height_or : List Touch → ℕ → ℤ → ℤ
height_or [] x z = z
height_or (t ∷ ts) x z = cond (t.position == x) t.height (height_or ts x z)

-- touched height + slope × distance + slack: the highest that the touch t lets position x stand
abbrev pub reach : Line → ℕ → Touch → ℤ
reach line x t = t.height +ℤ pos (line.slope * distance t.position x + line.slack)

-- The cap of a touched position is its height, that of an untouched one the smallest reach of all touches.
-- Before the first touch there is no cap; a 0 stands there that no promise speaks of.
abbrev pub cap : Line → List Touch → ℕ → ℤ
cap line [] x = pos 0
cap line (a ∷ ts) x = height_or (a ∷ ts) x (least (reach line x) a ts)

-- the largest cap of positions 0 to last
abbrev pub ceiling : Line → List Touch → ℤ
ceiling line ts = top (cap line ts) (whole line)

-- the largest touched height, at the lowest position that has it: the pick of the touches a and ts by height
abbrev pub floor : Touch → List Touch → Touch
floor a ts = first_highest (λ t. t.height) a ts

-- t is a touch, no touched height is above its height, and no touch at a lower position has the same
pub record IsFloor (ts : List Touch) (t : Touch) : Type 0 where
  pub touched : Has ts t
  pub highest : AllByRecursion (λ u. u.height ≤ℤ t.height) ts
  pub lowest : AllByRecursion (λ u. u.height ≡ t.height → t.position ≤ u.position) ts

-- the caps of positions 0 to last
abbrev pub sheet_of_caps : Line → List Touch → List ℤ
sheet_of_caps line ts = map (cap line ts) (positions (whole line))

-- A possible sheet: one whole number for each position 0 to last, every touched height among them, any two of which keep the law.
-- The limits of heights do not bind it.
pub record Possible (line : Line) (ts : List Touch) (sheet : List ℤ) : Type 0 where
  pub long : length sheet ≡ line.last + 1
  pub touched : AllByRecursion (λ t. slice_index_or sheet t.position (pos 0) ≡ t.height) ts
  pub lawful : (x y : ℕ) → x ≤ line.last → y ≤ line.last → Keeps line.slope line.slack x y (slice_index_or sheet x (pos 0)) (slice_index_or sheet y (pos 0))

-- no possible sheet has a height above z
abbrev pub NoneAbove : Line → List Touch → ℤ → Type 0
NoneAbove line ts z = (sheet : List ℤ) → Possible line ts sheet → (x : ℕ) → x ≤ line.last → slice_index_or sheet x (pos 0) ≤ℤ z

-- any two of the positions are at least d apart
abbrev pub Apart : ℕ → List ℕ → Type 0
Apart d ps = InOrder (λ p q. d ≤ distance p q) ps

-- d = 1 + (tolerance − slack) / slope rounded down; `-` stops at 0, so it is 1 where slack exceeds tolerance
abbrev pub spacing : Line → ℕ → ℕ
spacing line tolerance = 1 + (tolerance - line.slack) / line.slope

-- the most positions of 0 to last that lie d apart
abbrev pub most_touches : Line → ℕ → ℕ
most_touches line tolerance = line.last / spacing line tolerance + 1
