-- The lines put together again are the input.
use Rattle.std.proofs.Common.{◌≡◌, ℕ, zero, suc, ◌+◌, eqb, List, [], ◌∷◌, map, length, take, drop, sym, refl, ap, ◌∙◌, arith}
use Rattle.std.specs.List.{join_with_byte, AllByRecursion}
use Rattle.std.specs.Str.Iter.{LacksByte}
use Rattle.std.proofs.lemmas.List.{drop-drop}
use Rattle.std.proofs.lemmas.Bool.{eqb-true, eqb-false, cond_both}
use Rattle.commands.specs.Pieces.{Piece, StandsIn}
use Rattle.commands.specs.Lines.{line_end, Cut, cut, with_byte, all_lines}
use Rattle.commands.specs.Theorems.{LinesAreTheInput}
use Rattle.commands.proofs.Lines.{part_at, first_line}

-- what holds of both ways that a byte goes in front
by_byte : (P : Cut → Type 0) (p b : ℕ) (c : Cut) → (b ≡ line_end → P (record { first = part_at [] p; others = c.first ∷ c.others })) → ((b ≡ line_end → ⊥) → P (record { first = part_at (b ∷ c.first.bytes) p; others = c.others })) → P (with_byte p b c)
by_byte P p b c f g = cond_both (eqb b line_end) _ _ P (λ e. f (eqb-true b line_end e)) (λ e. g (eqb-false b line_end e))

abbrev put_together : Cut → List ℕ
put_together c = join_with_byte line_end (map (λ (l : Piece). l.bytes) (c.first ∷ c.others))

byte_more : (b : ℕ) (x : List ℕ) (xs : List (List ℕ)) → join_with_byte line_end ((b ∷ x) ∷ xs) ≡ b ∷ join_with_byte line_end (x ∷ xs)
byte_more b x [] = refl
byte_more b x (y ∷ xs) = refl

together : (p : ℕ) (bs : List ℕ) → put_together (cut p bs) ≡ bs
together p [] = refl
together p (b ∷ bs) =
    let c = cut (p + 1) bs in
    by_byte (λ d. put_together d ≡ b ∷ bs) p b c
    (λ e. ap (λ x. x ∷ put_together c) (sym e) ∙ ap (λ xs. b ∷ xs) (together (p + 1) bs))
    (λ e. byte_more b c.first.bytes (map (λ (l : Piece). l.bytes) c.others) ∙ ap (λ xs. b ∷ xs) (together (p + 1) bs))

lacks_more : (b : ℕ) (bs : List ℕ) → (b ≡ line_end → ⊥) → LacksByte line_end bs → LacksByte line_end (b ∷ bs)
lacks_more b bs n h zero l e = n e
lacks_more b bs n h (suc k) l e = h k (omega arith) e

whole : (p : ℕ) (bs : List ℕ) → AllByRecursion (λ l. LacksByte line_end l.bytes) (all_lines p bs)
whole p [] = ((λ k l e. absurd (omega arith)), tt)
whole p (b ∷ bs) =
    let c = cut (p + 1) bs in
    by_byte (λ d. AllByRecursion (λ (l : Piece). LacksByte line_end l.bytes) (d.first ∷ d.others)) p b c
    (λ e. ((λ k l f. absurd (omega arith)), whole (p + 1) bs))
    (λ e. (lacks_more b c.first.bytes e (whole (p + 1) bs).0, (whole (p + 1) bs).1))

rest_after : (input : List ℕ) (p b : ℕ) (bs : List ℕ) → b ∷ bs ≡ drop p input → bs ≡ drop (p + 1) input
rest_after input p b bs e = ap (drop 1) e ∙ drop-drop 1 p input

stand : (input : List ℕ) (p : ℕ) (bs : List ℕ) → bs ≡ drop p input → AllByRecursion (StandsIn input) (all_lines p bs)
stand input p [] e = (refl, tt)
stand input p (b ∷ bs) e =
    let c = cut (p + 1) bs in
    let s = stand input (p + 1) bs (rest_after input p b bs e) in
    let at : c.first.place ≡ p + 1 = ap (λ (l : Piece). l.place) (first_line (p + 1) bs) in
    let f : c.first.bytes ≡ take (length c.first.bytes) bs = s.0 ∙ ap (λ q. take (length c.first.bytes) (drop q input)) at ∙ ap (take (length c.first.bytes)) (sym (rest_after input p b bs e)) in
    by_byte (λ d. AllByRecursion (StandsIn input) (d.first ∷ d.others)) p b c
    (λ _. (refl, s))
    (λ _. (ap (λ xs. b ∷ xs) f ∙ ap (take (suc (length c.first.bytes))) e, s.1))

pub lines_are_the_input : LinesAreTheInput
lines_are_the_input input = record { together = together 0 input; whole = whole 0 input; stand = stand input 0 input refl }
