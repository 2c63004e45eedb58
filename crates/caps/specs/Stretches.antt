-- Stretches of positions, and the largest value over one.
use Rattle.std.specs.Prelude.{ℕ, ◌+◌, ◌-◌, ◌<◌, ◌≤◌, List, ◌∷◌, ℤ, ◌≤ℤ◌, ◌<ℤ◌}
use Rattle.std.specs.List.{range_with_len}
use Rattle.pick.specs.Picks.{first_highest}
use Rattle.caps.specs.declared.Line.{Line}
use Rattle.caps.specs.declared.Summit.{Summit}

-- the positions from one to another, both among them
pub record Stretch : Type 0 where
  pub from : ℕ
  pub to : ℕ

-- positions 0 to last
abbrev pub whole : Line → Stretch
whole line = record { from = 0; to = line.last }

-- the positions of a stretch after its first, and all of them, in rising order
abbrev pub later : Stretch → List ℕ
later s = range_with_len (s.from + 1) (s.to - s.from)

abbrev pub positions : Stretch → List ℕ
positions s = s.from ∷ later s

-- the pick of a stretch's positions by f: the lowest position of largest f
abbrev pub top_place : (ℕ → ℤ) → Stretch → ℕ
top_place f s = first_highest f s.from (later s)

-- the largest value of f over a stretch
abbrev pub top : (ℕ → ℤ) → Stretch → ℤ
top f s = f (top_place f s)

-- a position with its value
abbrev pub marked : (ℕ → ℤ) → ℕ → Summit
marked f p = record { cap = f p; place = p }

-- the largest value of f over a stretch, at its lowest place
abbrev pub summit_of : (ℕ → ℤ) → Stretch → Summit
summit_of f s = marked f (top_place f s)

-- p is the lowest place of the largest value of f over a .. b
pub record Peak (f : ℕ → ℤ) (a b p : ℕ) : Type 0 where
  pub low : a ≤ p
  pub high : p ≤ b
  pub largest : (x : ℕ) → a ≤ x → x ≤ b → f x ≤ℤ f p
  pub lowest : (x : ℕ) → a ≤ x → x < p → f x <ℤ f p
