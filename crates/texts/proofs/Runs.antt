-- Runs of white space and of other bytes.
use Rattle.std.proofs.Common.{◌≡◌, ℕ, suc, ◌+◌, ◌-◌, ◌<◌, Bool, false, not, List, [], ◌∷◌, length, get_or, take, drop, Some, None, Option, position, sym, refl, ap, ◌∙◌, ⊎_elim, arith}
use Rattle.std.specs.Option.{unwrap_or}
use Rattle.std.proofs.lemmas.List.{at_drop_more, drop_all}
use Rattle.std.proofs.lemmas.Slice.{between_to_end}
use Rattle.std.proofs.lemmas.Bool.{not-true, cases_Bool, cond-true, cond-false}
use Rattle.texts.specs.Words.{is_blank, before_first, words}
use Rattle.texts.proofs.Firsts.{before, before_or_all, before_none, before_some, some_within, passes}

abbrev is_other : ℕ → Bool
is_other b = not (is_blank b)

-- white space is in no word
words_after_blanks : (xs : List ℕ) → words (drop (before is_other xs) xs) ≡ words xs
words_after_blanks [] = refl
words_after_blanks (b ∷ bs) = ⊎_elim (λ e. rw e (words_after_blanks bs)) (λ e. rw e (rw e refl)) (cases_Bool (is_blank b))

-- a run of other bytes is the first word
word_first : (xs : List ℕ) → 0 < before is_blank xs → words xs ≡ take (before is_blank xs) xs ∷ words (drop (before is_blank xs) xs)
word_first [] h = absurd (omega arith)
word_first (b ∷ []) h = ⊎_elim (λ e. absurd (omega (arith, rw e at h))) (λ e. rw e refl) (cases_Bool (is_blank b))
word_first (b ∷ c ∷ cs) h =
    let more : ℕ = suc (before is_blank (c ∷ cs)) in
    let parted : ℕ → List (List ℕ) = λ n. take n (b ∷ c ∷ cs) ∷ words (drop n (b ∷ c ∷ cs)) in
    ⊎_elim
    (λ e. absurd (omega (arith, cond-true (is_blank b) 0 (suc (before is_blank (c ∷ cs))) e)))
    (λ e. cond-false (is_blank b) (words (c ∷ cs)) _ e ∙ ⊎_elim
    (λ f. cond-true (is_blank c) ((b ∷ []) ∷ words (c ∷ cs)) (before_first b (words (c ∷ cs))) f
    ∙ ap parted (sym (cond-false (is_blank b) 0 (suc (before is_blank (c ∷ cs))) e ∙ ap suc (cond-true (is_blank c) 0 (suc (before is_blank cs)) f))))
    (λ f. cond-false (is_blank c) ((b ∷ []) ∷ words (c ∷ cs)) (before_first b (words (c ∷ cs))) f
    ∙ ap (before_first b) (word_first (c ∷ cs) (omega (arith, cond-false (is_blank c) 0 (suc (before is_blank cs)) f)))
    ∙ ap parted (sym (cond-false (is_blank b) 0 (suc (before is_blank (c ∷ cs))) e)))
    (cases_Bool (is_blank c)))
    (cases_Bool (is_blank b))

pub no_word : (xs : List ℕ) → None ≡ position is_other xs → words xs ≡ []
no_word xs e = sym (words_after_blanks xs) ∙ ap words (ap (λ k. drop k xs) (before_none is_other xs e) ∙ drop_all (length xs) xs (omega arith))

-- the first word as the code cuts it: it begins at s and ends at the first white space after that, if there is one
module _ (xs : List ℕ) (s : ℕ) (starts : Some s ≡ position is_other xs) where
  pub a_word : (o : Option ℕ) (from : List ℕ) (n : ℕ) → from ≡ take (length xs - s) (drop s xs) → o ≡ position is_blank from → n ≡ unwrap_or o (length from) → words xs ≡ take n from ∷ words (drop n from)
  a_word o from n f ends e =
      let from-is : from ≡ drop s xs = f ∙ between_to_end xs s (length xs) (omega arith) in
      let here : is_blank (get_or xs s 0) ≡ false = not-true _ (passes is_other xs s starts) in
      let n-is : n ≡ before is_blank from = e ∙ ap (λ r. unwrap_or r (length from)) ends ∙ before_or_all is_blank from in
      let some : before is_blank (drop s xs) ≡ suc (before is_blank (drop (s + 1) xs)) =
      at_drop_more (before is_blank) xs s 0 (some_within is_other xs s starts) ∙ cond-false (is_blank (get_or xs s 0)) 0 (suc (before is_blank (drop (s + 1) xs))) here in
      let same : before is_blank from ≡ before is_blank (drop s xs) = ap (before is_blank) from-is in
      sym (words_after_blanks xs) ∙ ap (λ k. words (drop k xs)) (sym (before_some is_other xs s starts)) ∙ ap words (sym from-is)
      ∙ rw n-is (word_first from (omega arith))
