-- The lines of an input, one after another.
use Rattle.std.proofs.Common.{◌≡◌, ℕ, suc, ◌+◌, ◌-◌, ◌<◌, ◌≤◌, Bool, true, not, ◌==◌, eqb, List, [], ◌∷◌, length, get_or, take, drop, filter, position, Some, None, Option, sym, refl, ap, ◌∙◌, ⊎_elim, add-zero, arith, length-drop}
use Rattle.std.proofs.lemmas.List.{get_or-drop, drop_all, drop-drop, length-take-le}
use Rattle.std.proofs.lemmas.Bool.{eqb-false, not-true, ne_eqb, cond-true, cases_Bool}
use Rattle.std.proofs.lemmas.Slice.{between_to_end}
use Rattle.texts.proofs.Firsts as first
use Rattle.commands.proofs.Cuts.{before_next, before_or_all, before_within}
use Rattle.std.specs.Option.{unwrap_or}
use Rattle.commands.specs.Pieces.{Piece}
use Rattle.commands.specs.Lines.{line_end, Cut, cut, is_some, lines_at, lines_from, before, IsNext}

abbrev pub part_at : List ℕ → ℕ → Piece
part_at bs p = record { bytes = bs; place = p }

-- the lines that are not empty
abbrev full-lines : Cut → List Piece
full-lines c = filter is_some (c.first ∷ c.others)

ends_empty : (x : ℕ) (xs : List ℕ) (q : ℕ) → eqb x line_end ≡ true → lines_at q (x ∷ xs) ≡ lines_at (q + 1) xs
ends_empty x xs q e = rw e refl

-- empty lines are skipped
abbrev is_other : ℕ → Bool
is_other x = not (x == line_end)

lines_skip : (p : ℕ) (xs : List ℕ) → lines_at p xs ≡ lines_at (p + first.before is_other xs) (drop (first.before is_other xs) xs)
lines_skip p [] = ap (λ q. lines_at q []) (sym (add-zero p))
lines_skip p (x ∷ xs) =
    ⊎_elim
    (λ e. let n : p + 1 + first.before is_other xs ≡ p + suc (first.before is_other xs) = omega arith in
    rw e (lines_skip (p + 1) xs ∙ ap (λ q. lines_at q (drop (first.before is_other xs) xs)) n))
    (λ e. let z : first.before is_other (x ∷ xs) ≡ 0 = cond-true (is_other x) 0 (suc (first.before is_other xs)) (ap not e) in
    ap (λ q. lines_at q (x ∷ xs)) (sym (add-zero p)) ∙ ap (λ k. lines_at (p + k) (drop k (x ∷ xs))) (sym z))
    (cases_Bool (eqb x line_end))

-- a line goes up to the next line end
pub first_line : (p : ℕ) (xs : List ℕ) → (cut p xs).first ≡ part_at (take (before line_end xs) xs) p
first_line p [] = refl
first_line p (x ∷ xs) =
    ⊎_elim
    (λ e. rw e refl)
    (λ e. rw e (ap (λ (l : Piece). part_at (x ∷ l.bytes) p) (first_line (p + 1) xs)))
    (cases_Bool (eqb x line_end))

other_lines : (p : ℕ) (xs : List ℕ) → filter is_some (cut p xs).others ≡ lines_at (p + before line_end xs) (drop (before line_end xs) xs)
other_lines p [] = refl
other_lines p (x ∷ xs) =
    ⊎_elim
    (λ e. let z = sym (ends_empty x xs (p + 0) e ∙ ap (λ n. lines_at (n + 1) xs) (add-zero p)) in rw e z)
    (λ e. let n : p + 1 + before line_end xs ≡ p + suc (before line_end xs) = omega arith in
    rw e (other_lines (p + 1) xs ∙ ap (λ q. lines_at q (drop (before line_end xs) xs)) n))
    (cases_Bool (eqb x line_end))

holds_some : (l : Piece) → 0 < length l.bytes → is_some l ≡ true
holds_some l h = ap not (ne_eqb (length l.bytes) 0 (λ z. omega arith))

lines_first : (p : ℕ) (xs : List ℕ) → 0 < length (take (before line_end xs) xs) → lines_at p xs ≡ part_at (take (before line_end xs) xs) p ∷ lines_at (p + before line_end xs) (drop (before line_end xs) xs)
lines_first p xs h =
    let l = part_at (take (before line_end xs) xs) p in
    ap (λ f. filter is_some (f ∷ (cut p xs).others)) (first_line p xs)
    ∙ cond-true (is_some l) (l ∷ filter is_some (cut p xs).others) (filter is_some (cut p xs).others) (holds_some l h)
    ∙ ap (λ ls. l ∷ ls) (other_lines p xs)

next_of : (xs : List ℕ) (s m : ℕ) → s < length xs → (get_or xs s 0 ≡ line_end → ⊥) → m ≡ before line_end (drop s xs) → m ≤ length (drop s xs) → IsNext xs s (part_at (take m (drop s xs)) s)
next_of xs s m h ne e w =
    let n : length (take m (drop s xs)) ≡ m = length-take-le m (drop s xs) w in
    let k : length (drop s xs) ≡ length xs - s = length-drop s xs in
    let b : before line_end (drop s xs) ≡ suc (before line_end (drop (s + 1) xs)) = before_next xs s line_end h ne in
    let some : 0 < length (take m (drop s xs)) = omega arith in
    let z : s + m ≡ s + length (take m (drop s xs)) = omega arith in
    let f : lines_from xs s ≡ part_at (take m (drop s xs)) s ∷ lines_at (s + m) (drop m (drop s xs)) = rw e (lines_first s (drop s xs) (rw e at some)) in
    record {
      lines = f ∙ ap (λ ls. part_at (take m (drop s xs)) s ∷ ls) (ap (lines_at (s + m)) (drop-drop m s xs) ∙ ap (λ q. lines_at q (drop q xs)) z);
      stands = ap (λ q. take q (drop s xs)) (sym n);
      onward = omega arith;
      within = omega arith;
    }

-- the next line as the code cuts it: what follows p has its first byte of a line at k, and the line ends at the next line end, if there is one
module _ (xs : List ℕ) (p : ℕ) (from : List ℕ) (after : from ≡ take (length xs - p) (drop p xs)) where
  from_is : from ≡ drop p xs
  from_is = after ∙ between_to_end xs p (length xs) (omega arith)

  pub no_line : None ≡ position is_other from → lines_from xs p ≡ []
  no_line e =
      let all : first.before is_other from ≡ length from = first.before_none is_other from e in
      ap (lines_at p) (sym from_is) ∙ lines_skip p from ∙ ap (λ k. lines_at (p + k) (drop k from)) all ∙ ap (lines_at (p + length from)) (drop_all (length from) from (omega arith))

  pub next_cut : (k : ℕ) → Some k ≡ position is_other from → (rest : List ℕ) (o : Option ℕ) (m : ℕ) → rest ≡ take (length xs - (p + k)) (drop (p + k) xs) → o ≡ position (λ x. x == line_end) rest → m ≡ unwrap_or o (length rest) →
      IsNext xs p (part_at (take m rest) (p + k))
  next_cut k e rest o m r ends f =
      let s : ℕ = p + k in
      let there : k < length from = first.some_within is_other from k e in
      let long : length from ≡ length xs - p = ap length from_is ∙ length-drop p xs in
      let rest_is : rest ≡ drop (p + k) xs = r ∙ between_to_end xs (p + k) (length xs) (omega arith) in
      let byte : get_or from k 0 ≡ get_or xs (p + k) 0 = ap (λ ys. get_or ys k 0) from_is ∙ get_or-drop p xs k 0 in
      let ne : get_or xs (p + k) 0 ≡ line_end → ⊥ = λ q. eqb-false _ _ (not-true _ (first.passes is_other from k e)) (byte ∙ q) in
      let cut-at : m ≡ before line_end rest = f ∙ ap (λ r. unwrap_or r (length rest)) ends ∙ before_or_all line_end rest in
      let within : m ≤ length rest = omega (arith, before_within line_end rest) in
      let next : IsNext xs (p + k) (part_at (take m (drop (p + k) xs)) (p + k)) = next_of xs (p + k) m (omega arith) ne (cut-at ∙ ap (before line_end) rest_is) (rw (sym rest_is) within) in
      let skipped : lines_from xs p ≡ lines_from xs (p + k) =
      ap (lines_at p) (sym from_is) ∙ lines_skip p from ∙ ap (λ j. lines_at (p + j) (drop j from)) (sym (first.before_some is_other from k e))
      ∙ ap (lines_at (p + k)) (ap (drop k) from_is ∙ drop-drop k p xs) in
      rw rest_is record { lines = skipped ∙ next.lines; stands = next.stands; onward = omega (arith, next.onward); within = next.within }
