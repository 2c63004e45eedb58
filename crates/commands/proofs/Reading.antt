-- A line as the code takes it apart.
use Rattle.std.proofs.Common.{◌≡◌, ℕ, ◌==◌, eqb, length, Some, None, Option, position, sym, ap, ◌∙◌, arith}
use Rattle.std.proofs.lemmas.Bool.{eq-eqb, ne_eqb, cond-true, cond-false}
use Rattle.commands.specs.Pieces.{Piece}
use Rattle.commands.specs.Lines.{space, before}
use Rattle.commands.specs.Orders.{Order, alone, numbered, perhaps_numbered, before_space, after_space, spaced, order_of, number_of}
use Rattle.commands.proofs.Cuts.{before_none, before_some, some_within}

-- the line has no space
pub order_alone : (l : Piece) → None ≡ position (λ x. x == space) l.bytes → alone l ≡ order_of l
order_alone l e = sym (cond-true (eqb (before space l.bytes) (length l.bytes)) (alone l) (spaced l (before space l.bytes)) (eq-eqb _ _ (before_none space l.bytes e)))

-- the line has a space, at n
module _ (l : Piece) (n : ℕ) (at : Some n ≡ position (λ x. x == space) l.bytes) where
  has_space : spaced l n ≡ order_of l
  has_space =
      let e = before_some space l.bytes n at in
      let w = some_within space l.bytes n at in
      ap (spaced l) e ∙ sym (cond-false (eqb (before space l.bytes) (length l.bytes)) (alone l) (spaced l (before space l.bytes)) (ne_eqb _ _ (λ q. omega arith)))

  pub order_spaced : (d : Piece) (o : Option ℕ) → d ≡ after_space l n → o ≡ number_of d.bytes → perhaps_numbered l (before_space l n) (after_space l n) o ≡ order_of l
  order_spaced d o f h = ap (perhaps_numbered l (before_space l n) (after_space l n)) (h ∙ ap (λ (p : Piece). number_of p.bytes) f) ∙ has_space

  pub order_numbered : (r : Order) (v d : Piece) (k : ℕ) → v ≡ before_space l n → d ≡ after_space l n → Some k ≡ number_of d.bytes → r ≡ numbered l v d k → r ≡ order_of l
  order_numbered r v d k f g h q =
      q ∙ ap (λ (p : Piece). numbered l p d k) f ∙ ap (λ (p : Piece). numbered l (before_space l n) p k) g ∙ order_spaced d (Some k) g h
