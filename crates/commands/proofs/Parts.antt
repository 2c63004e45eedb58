-- The words of a line that stands in the input stand in it too.
use Rattle.std.proofs.Common.{◌≡◌, ℕ, ◌+◌, ◌-◌, eqb, List, [], ◌∷◌, map, length, take, drop, Some, None, codes, Option, sym, ap, ◌∙◌, subst, ⊎_elim, add_assoc, arith, length-drop}
use Rattle.std.specs.Str.{bytes_eq}
use Rattle.std.proofs.lemmas.List.{drop-drop, length-take-le, take-take, take_all}
use Rattle.std.proofs.lemmas.Slice.{between_is}
use Rattle.std.proofs.lemmas.Bool.{cond_both, cases_lt}
use Rattle.commands.specs.declared.command.Command.{Command}
use Rattle.commands.specs.Pieces.{Piece, end_of, StandsIn}
use Rattle.commands.specs.Lines.{space, before, lines_from, IsNext}
use Rattle.commands.specs.Orders.{Order, high, left, ask, at, run, tol, unknown, WordsStand, alone, numbered, perhaps_numbered, before_space, after_space, spaced, number_of, order_of, orders_from, IsNextOrder, NextOrder}
use Rattle.commands.proofs.Lines.{part_at}

alone_stands : (input : List ℕ) (l : Piece) → StandsIn input l → WordsStand input (alone l)
alone_stands input l h =
    cond_both (bytes_eq l.bytes (codes "high")) (high l) _ (WordsStand input) (λ _. h)
    (λ _. cond_both (bytes_eq l.bytes (codes "left")) (left l) _ (WordsStand input) (λ _. h)
    (λ _. cond_both (bytes_eq l.bytes (codes "ask")) (ask l) (unknown l) (WordsStand input) (λ _. h) (λ _. h)))

numbered_stands : (input : List ℕ) (l v d : Piece) (n : ℕ) → StandsIn input l → StandsIn input v → StandsIn input d → WordsStand input (numbered l v d n)
numbered_stands input l v d n h a b =
    cond_both (bytes_eq v.bytes (codes "at")) (at v d n) _ (WordsStand input) (λ _. (a, b))
    (λ _. cond_both (bytes_eq v.bytes (codes "run")) (run v d n) _ (WordsStand input) (λ _. (a, b))
    (λ _. cond_both (bytes_eq v.bytes (codes "tol")) (tol v d n) (unknown l) (WordsStand input) (λ _. (a, b)) (λ _. h)))

perhaps_stands : (input : List ℕ) (l v d : Piece) (o : Option ℕ) → StandsIn input l → StandsIn input v → StandsIn input d → WordsStand input (perhaps_numbered l v d o)
perhaps_stands input l v d None h a b = h
perhaps_stands input l v d (Some n) h a b = numbered_stands input l v d n h a b

take_stands : (input bs : List ℕ) (p n : ℕ) → StandsIn input (part_at bs p) → StandsIn input (part_at (take n bs) p)
take_stands input bs p n h =
    ⊎_elim
    (λ q. subst (λ (part : List ℕ). part ≡ take (length part) (drop p input)) (sym (take_all n bs (omega arith))) h)
    (λ q. ap (take n) h ∙ take-take n (length bs) (drop p input) q ∙ ap (λ k. take k (drop p input)) (sym (length-take-le n bs q)))
    (cases_lt (length bs) n)

drop_stands : (input bs : List ℕ) (p k : ℕ) → StandsIn input (part_at bs p) → StandsIn input (part_at (drop k bs) (p + k))
drop_stands input bs p k h =
    ap (drop k) h
    ∙ sym (between_is (drop p input) k (length bs))
    ∙ ap (take (length bs - k)) (drop-drop k p input)
    ∙ ap (λ m. take m (drop (p + k) input)) (sym (length-drop k bs))

spaced_stands : (input : List ℕ) (l : Piece) (n : ℕ) → StandsIn input l → WordsStand input (spaced l n)
spaced_stands input l n h =
    perhaps_stands input l (before_space l n) (after_space l n) (number_of (after_space l n).bytes) h (take_stands input l.bytes l.place n h)
    (subst (λ q. StandsIn input (part_at (drop (n + 1) l.bytes) q)) (sym (add_assoc l.place n 1)) (drop_stands input l.bytes l.place (n + 1) h))

pub order_stands : (input : List ℕ) (l : Piece) → StandsIn input l → WordsStand input (order_of l)
order_stands input l h =
    cond_both (eqb (before space l.bytes) (length l.bytes)) (alone l) _ (WordsStand input)
    (λ _. alone_stands input l h)
    (λ _. spaced_stands input l (before space l.bytes) h)

pub next_order : (input : List ℕ) (p : ℕ) (l : Piece) (o : Order) → IsNext input p l → o ≡ order_of l → IsNextOrder input p o (end_of l)
next_order input p l o n e = record {
  orders = ap (map order_of) n.lines ∙ ap (λ x. x ∷ orders_from input (end_of l)) (sym e);
  words = subst (WordsStand input) (sym e) (order_stands input l n.stands);
  onward = n.onward;
  within = n.within;
}

pub no_order : (input : List ℕ) (p : ℕ) (r : Option (Command × ℕ)) → r ≡ None → lines_from input p ≡ [] → NextOrder input p r
no_order input p r e n = subst (NextOrder input p) (sym e) (ap (map order_of) n)
