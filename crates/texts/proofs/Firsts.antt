-- The first byte that passes a test, as `position` finds it.
use Rattle.std.proofs.Common.{◌≡◌, ℕ, suc, ◌+◌, ◌<◌, ◌≤◌, Bool, true, not, cond, List, [], ◌∷◌, length, get_or, Some, None, position, refl, ap, ◌∙◌, arith}
use Rattle.std.specs.List.{position_or_len}
use Rattle.std.specs.Option.{unwrap_or}
use Rattle.std.proofs.lemmas.List.Recursion.{is_position_or_len}
use Rattle.std.proofs.lemmas.List.Sums.{prefix_len-le-length, passes_at_first}
use Rattle.std.proofs.lemmas.Grind.{common_steps}

-- how many bytes stand before it
abbrev pub before : (ℕ → Bool) → List ℕ → ℕ
before p [] = 0
before p (x ∷ xs) = cond (p x) 0 (suc (before p xs))

module _ (p : ℕ → Bool) (xs : List ℕ) where
  before_is : before p xs ≡ position_or_len p xs
  before_is = is_position_or_len (before p) p refl (λ x ys. let up : suc (before p ys) ≡ 1 + before p ys = omega arith in ap (cond (p x) 0) up) xs

  within : position_or_len p xs ≤ length xs
  within = prefix_len-le-length (λ x. not (p x)) xs

  pub before_within : before p xs ≤ length xs
  before_within = let w = within in let b = before_is in omega arith

  -- where none passes, all of them do
  pub before_or_all : unwrap_or (position p xs) (length xs) ≡ before p xs
  before_or_all = let w = within in let b = before_is in grind (arith, common_steps)

  pub before_none : None ≡ position p xs → before p xs ≡ length xs
  before_none e = let w = within in let b = before_is in grind (arith, common_steps)

  -- one that passes stands at i
  module _ (i : ℕ) (e : Some i ≡ position p xs) where
    pub before_some : i ≡ before p xs
    before_some = let b = before_is in grind (arith, common_steps)

    pub some_within : i < length xs
    some_within = grind (arith, common_steps)

    pub passes : p (get_or xs i 0) ≡ true
    passes = let i-is : i ≡ position_or_len p xs = before_some ∙ before_is in rw i-is (passes_at_first p xs 0 (rw i-is at some_within))
