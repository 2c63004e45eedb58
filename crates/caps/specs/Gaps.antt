-- Gaps, and the untouched positions.
use Rattle.std.specs.Prelude.{◌≡◌, ℕ, ◌+◌, ◌-◌, ◌<◌, ◌≤◌, cond, not, List, [], ◌∷◌, ℤ, ◌≤ℤ◌, ◌<ℤ◌, Some, None, filter, Option, nat_le, nat_lt}
use Rattle.pick.specs.Picks.{picked, first_above}
use Rattle.caps.specs.declared.Touch.{Touch}
use Rattle.caps.specs.declared.Line.{Line}
use Rattle.caps.specs.declared.Summit.{Summit}
use Rattle.caps.specs.Touches.{InOrder, is_touched, Untouched}
use Rattle.caps.specs.Stretches.{Stretch, whole, positions, top, marked, summit_of}
use Rattle.caps.specs.Caps.{cap}

-- the untouched positions, in rising order
abbrev pub untouched : Line → List Touch → List ℕ
untouched line ts = filter (λ x. not (is_touched ts x)) (positions (whole line))

-- a gap: a run of untouched positions that no neighbouring untouched position extends
pub record IsGap (line : Line) (ts : List Touch) (s : Stretch) : Type 0 where
  pub some : s.from ≤ s.to
  pub within : s.to ≤ line.last
  pub free : (x : ℕ) → s.from ≤ x → x ≤ s.to → Untouched ts x
  pub before : (x : ℕ) → x + 1 ≡ s.from → Untouched ts x → ⊥
  pub after : s.to < line.last → Untouched ts (s.to + 1) → ⊥

-- the gaps from lo to last that touches in rising order leave
abbrev pub gaps_from : ℕ → ℕ → List Touch → List Stretch
gaps_from last lo [] = cond (nat_le lo last) (record { from = lo; to = last } ∷ []) []
gaps_from last lo (t ∷ ts) =
    cond (nat_lt lo t.position) (record { from = lo; to = t.position - 1 } ∷ gaps_from last (t.position + 1) ts) (gaps_from last (t.position + 1) ts)

-- the gaps, in rising order
abbrev pub gaps : Line → List Touch → List Stretch
gaps line ts = gaps_from line.last 0 ts

-- each gap ends below those after it
abbrev pub Ascending : List Stretch → Type 0
Ascending gs = InOrder (λ g k. g.to < k.from) gs

-- what f makes of an item, where there is one
abbrev pub mapped : {X Y : Type 0} → (X → Y) → Option X → Option Y
mapped f None = None
mapped f (Some x) = Some (f x)

-- the untouched position of largest cap, the lowest on a tie, with its cap: the pick of the untouched positions by cap
abbrev pub high_summit : Line → List Touch → Option Summit
high_summit line ts = mapped (marked (cap line ts)) (picked (cap line ts) (untouched line ts))

-- the pick of the gaps by largest cap
abbrev pub highest_gap : Line → List Touch → Option Stretch
highest_gap line ts = picked (top (cap line ts)) (gaps line ts)

-- the lowest gap whose largest cap exceeds z
abbrev pub lowest_gap_above : Line → List Touch → ℤ → Option Stretch
lowest_gap_above line ts z = first_above (top (cap line ts)) z (gaps line ts)

-- its largest cap, at the lowest place
abbrev pub summit_above : Line → List Touch → ℤ → Option Summit
summit_above line ts z = mapped (summit_of (cap line ts)) (lowest_gap_above line ts z)

-- p is the untouched position of largest cap, the lowest on a tie
pub record HighestUntouched (line : Line) (ts : List Touch) (p : ℕ) : Type 0 where
  pub within : p ≤ line.last
  pub free : Untouched ts p
  pub largest : (x : ℕ) → x ≤ line.last → Untouched ts x → cap line ts x ≤ℤ cap line ts p
  pub lowest : (x : ℕ) → x < p → Untouched ts x → cap line ts x <ℤ cap line ts p

-- g is a gap, its largest cap exceeds z, and below g no cap of an untouched position does
pub record LowestAbove (line : Line) (ts : List Touch) (z : ℤ) (g : Stretch) : Type 0 where
  pub gap : IsGap line ts g
  pub above : z <ℤ top (cap line ts) g
  pub first : (x : ℕ) → x < g.from → Untouched ts x → cap line ts x ≤ℤ z
