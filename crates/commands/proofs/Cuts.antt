-- How many bytes stand before the first b.
use Rattle.std.proofs.Common.{◌≡◌, ℕ, suc, ◌+◌, ◌<◌, ◌≤◌, ◌==◌, eqb, List, length, get_or, drop, Some, None, position, ◌∙◌}
use Rattle.std.specs.Option.{unwrap_or}
use Rattle.std.proofs.lemmas.List.{at_drop_more}
use Rattle.std.proofs.lemmas.Bool.{ne_eqb, cond-false}
use Rattle.texts.proofs.Firsts as first
use Rattle.commands.specs.Lines.{before}

pub before_next : (xs : List ℕ) (i b : ℕ) → i < length xs → (get_or xs i 0 ≡ b → ⊥) → before b (drop i xs) ≡ suc (before b (drop (i + 1) xs))
before_next xs i b h n = at_drop_more (before b) xs i 0 h ∙ cond-false (eqb (get_or xs i 0) b) 0 (suc (before b (drop (i + 1) xs))) (ne_eqb _ _ n)

-- the same as `position` finds it
module _ (b : ℕ) (xs : List ℕ) where
  pub before_or_all : unwrap_or (position (λ x. x == b) xs) (length xs) ≡ before b xs
  before_or_all = first.before_or_all (λ x. x == b) xs

  pub before_within : before b xs ≤ length xs
  before_within = first.before_within (λ x. x == b) xs

  pub before_none : None ≡ position (λ x. x == b) xs → before b xs ≡ length xs
  before_none e = first.before_none (λ x. x == b) xs e

  pub before_some : (i : ℕ) → Some i ≡ position (λ x. x == b) xs → i ≡ before b xs
  before_some i e = first.before_some (λ x. x == b) xs i e

  pub some_within : (i : ℕ) → Some i ≡ position (λ x. x == b) xs → i < length xs
  some_within i e = first.some_within (λ x. x == b) xs i e
