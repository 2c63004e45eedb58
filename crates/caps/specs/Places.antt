-- The place of a touch among others, and the test of a table of touches.
use Rattle.std.specs.Prelude.{ℕ, suc, ◌≤◌, cond, List, [], ◌∷◌, nat_lt}
use Rattle.std.specs.List.{AllByRecursion}
use Rattle.terms.specs.Meaning.{Height}
use Rattle.caps.specs.declared.Touch.{Touch}
use Rattle.caps.specs.declared.Line.{Line}
use Rattle.caps.specs.Touches.{OnLine}

-- how many touches, from the first on, lie at p or before
abbrev pub places_before : ℕ → List Touch → ℕ
places_before p [] = 0
places_before p (t ∷ ts) = cond (nat_lt p t.position) 0 (suc (places_before p ts))

-- the touch lies on the line at `from` or after, its height within the limits
pub record Follows (line : Line) (from : ℕ) (t : Touch) : Type 0 where
  pub after : from ≤ t.position
  pub within : t.position ≤ line.last
  pub height : Height t.height

-- touches of the line at `from` or after, their heights within the limits
pub record AllFollow (line : Line) (from : ℕ) (ts : List Touch) : Type 0 where
  pub after : AllByRecursion (λ t. from ≤ t.position) ts
  pub on_line : OnLine line ts
  pub heights : AllByRecursion (λ t. Height t.height) ts
