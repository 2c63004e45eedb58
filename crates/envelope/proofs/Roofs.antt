-- The caps of a position by the extremes of the touches on each side.
use Rattle.std.proofs.Common.{◌≡◌, ℕ, ◌*◌, ◌<◌, List, [], ◌∷◌, ◌++◌, length, ℤ, pos, ◌+ℤ◌, ◌-ℤ◌, ◌≤ℤ◌, sym, ap, ◌∙◌, arith}
use Rattle.std.specs.List.{AllByRecursion}
use Rattle.caps.specs.declared.Touch.{Touch}
use Rattle.caps.specs.declared.Line.{Line}
use Rattle.caps.specs.Caps.{least, cap}
use Rattle.caps.specs.Crossings.{rise, fall, roof}
use Rattle.caps.proofs.Crossings.{caps_both, caps_left, caps_right}
use Rattle.envelope.specs.Walks.{lowest}
use Rattle.envelope.proofs.Lowest.{lowest-least}

module _ (line : Line) (x : ℕ) where
  abbrev Low : (Touch → ℤ) → List Touch → Type 0
  Low f ts = AllByRecursion (λ t. f t ≤ℤ pos 2147483647) ts

  pub both_sides : (ls rs : List Touch) → 0 < length ls → 0 < length rs → Low (rise line.slope) ls → Low (fall line.slope) rs →
      AllByRecursion (λ t. t.position < x) ls → AllByRecursion (λ t. x < t.position) rs →
      cap line (ls ++ rs) x ≡ roof line.slope (lowest (rise line.slope) ls) (lowest (fall line.slope) rs) x +ℤ pos line.slack
  both_sides [] rs some _ _ _ _ _ = absurd (omega arith)
  both_sides (a ∷ ls) [] _ some _ _ _ _ = absurd (omega arith)
  both_sides (a ∷ ls) (b ∷ rs) _ _ lo lo' l r =
      caps_both line x a ls b rs l r
      ∙ ap (λ z. roof line.slope z (least (fall line.slope) b rs) x +ℤ pos line.slack) (sym (lowest-least (rise line.slope) a ls lo))
      ∙ ap (λ z. roof line.slope (lowest (rise line.slope) (a ∷ ls)) z x +ℤ pos line.slack) (sym (lowest-least (fall line.slope) b rs lo'))

  pub left_side : (ls : List Touch) → 0 < length ls → Low (rise line.slope) ls → AllByRecursion (λ t. t.position < x) ls →
      cap line ls x ≡ (lowest (rise line.slope) ls +ℤ pos (line.slope * x)) +ℤ pos line.slack
  left_side [] some _ _ = absurd (omega arith)
  left_side (a ∷ ls) _ lo l =
      caps_left line x a ls l ∙ ap (λ z. (z +ℤ pos (line.slope * x)) +ℤ pos line.slack) (sym (lowest-least (rise line.slope) a ls lo))

  pub right_side : (rs : List Touch) → 0 < length rs → Low (fall line.slope) rs → AllByRecursion (λ t. x < t.position) rs →
      cap line rs x ≡ (lowest (fall line.slope) rs -ℤ pos (line.slope * x)) +ℤ pos line.slack
  right_side [] some _ _ = absurd (omega arith)
  right_side (b ∷ rs) _ lo r =
      caps_right line x b rs r ∙ ap (λ z. (z -ℤ pos (line.slope * x)) +ℤ pos line.slack) (sym (lowest-least (fall line.slope) b rs lo))
