use Rattle.std.proofs.Common.{◌≡◌, ℕ, ◌+◌, ◌-◌, ◌<◌, ◌≤◌, List, [], ◌∷◌, ◌++◌, length, get_or, take, drop, set, sym, ap, ◌∙◌, append_assoc, add-one, arith}
use lib.Seq.{take-append-add}
use Rattle.std.specs.List.{insert}
use Rattle.std.proofs.lemmas.List.{take_more, drop_more, set_at, get_or_at, length-take-le, take-take, drop-take}
use Rattle.std.proofs.lemmas.List.Edits.{length-insert, get_or-insert_above}

module _ {X : Type 0} (T : List X) (at : ℕ) (x d : X) where
  pub shift_set : (i : ℕ) → at ≤ i → i < length T →
      set (take i (insert T at x) ++ drop i T) i (get_or (insert T at x) i d) ≡ take (i + 1) (insert T at x) ++ drop (i + 1) T
  shift_set i low inn =
      let n = length-insert T at x (omega arith) in
      let front : length (take i (insert T at x)) ≡ i = length-take-le i (insert T at x) (omega arith) in
      ap (λ (u : List X). set (take i (insert T at x) ++ u) i (get_or (insert T at x) i d)) (drop_more T i d inn)
      ∙ set_at (take i (insert T at x)) (get_or T i d) (drop (i + 1) T) (get_or (insert T at x) i d) i front
      ∙ sym (append_assoc (take i (insert T at x)) (get_or (insert T at x) i d ∷ []) (drop (i + 1) T))
      ∙ ap (λ (u : List X). u ++ drop (i + 1) T) (sym (take_more (insert T at x) i d (omega arith)))

  pub shift_old : (i : ℕ) → at ≤ i → i < length T → get_or (take i (insert T at x) ++ drop i T) i d ≡ get_or (insert T at x) (i + 1) d
  shift_old i low inn =
      let n = length-insert T at x (omega arith) in
      let front : length (take i (insert T at x)) ≡ i = length-take-le i (insert T at x) (omega arith) in
      ap (λ (u : List X). get_or (take i (insert T at x) ++ u) i d) (drop_more T i d inn)
      ∙ get_or_at (take i (insert T at x)) (get_or T i d) (drop (i + 1) T) d i front
      ∙ sym (get_or-insert_above T at x d i low (omega arith))

module _ {X : Type 0} (T : List X) (at : ℕ) (x : X) where
  part : (m : ℕ) → at + m ≤ length T → take (at + (m + 1)) (insert T at x) ≡ insert (take (at + m) T) at x
  part m inn =
      let front : length (take at T) ≡ at = length-take-le at T (omega arith) in
      ap (λ k. take (k + (m + 1)) (insert T at x)) (sym front)
      ∙ take-append-add (take at T) (x ∷ drop at T) (m + 1)
      ∙ ap (λ k. take at T ++ take k (x ∷ drop at T)) (add-one m)
      ∙ ap (λ (u : List X). u ++ x ∷ take m (drop at T)) (sym (take-take at (at + m) T (omega arith)))
      ∙ ap (λ (u : List X). take at (take (at + m) T) ++ x ∷ u) (sym (drop-take at m T))

  pub shift_done : (n : ℕ) → at ≤ n → n < length T → take (n + 1) (insert T at x) ≡ insert (take n T) at x
  shift_done n low inn =
      let e : at + (n - at) ≡ n = omega arith in
      let f : at + (n - at + 1) ≡ n + 1 = omega arith in
      ap (λ j. take j (insert T at x)) (sym f)
      ∙ part (n - at) (omega arith)
      ∙ ap (λ j. insert (take j T) at x) e
