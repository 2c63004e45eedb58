-- Digits read one by one from the left.
use Rattle.std.proofs.Common.{◌≡◌, ℕ, ◌+◌, ◌-◌, ◌*◌, ◌≤◌, true, ◌&&◌, leb, List, [], ◌∷◌, length, drop, Some, None, sym, ap, ◌∙◌, rules}
use Rattle.std.specs.Str.{all_ascii_digits}
use Rattle.std.proofs.lemmas.List.{at_drop_all}
use Rattle.std.proofs.lemmas.Str.Parse.{IsNumeralModel, numerals_by_fold, numerals_by_weight, tells_all_ascii_digits}
use Rattle.std.proofs.lemmas.Bool.{le-leb, and_from, cond-true}
use Rattle.texts.specs.Numbers.{value, is_number, number_of}

-- the number so far, and then the digits that follow
abbrev pub read_on : ℕ → List ℕ → ℕ
read_on n [] = n
read_on n (c ∷ cs) = read_on (10 * n + (c - 48)) cs

from_left : IsNumeralModel (λ ds. all_ascii_digits ds ≡ true) (read_on 0)
from_left = numerals_by_fold _ tells_all_ascii_digits read_on (search rules)

pub by_weight : IsNumeralModel (λ ds. all_ascii_digits ds ≡ true) value
by_weight = numerals_by_weight _ tells_all_ascii_digits value (search rules)

-- digits read from the left give their value
read_value : (ds : List ℕ) → all_ascii_digits ds ≡ true → read_on 0 ds ≡ value ds
read_value ds h = from_left.same ds (from_left.to ds h) ∙ sym (by_weight.same ds (by_weight.to ds h))

pub digits_all : (xs : List ℕ) (i n : ℕ) → length xs ≤ i → 1 ≤ length xs → length xs ≤ 5 → all_ascii_digits (drop i xs) ≡ all_ascii_digits xs → read_on n (drop i xs) ≡ read_on 0 xs → Some n ≡ number_of xs
digits_all xs i n h a b e f =
    let z : all_ascii_digits xs ≡ true = sym e ∙ at_drop_all all_ascii_digits xs i h in
    let v : n ≡ value xs = sym (at_drop_all (read_on n) xs i h) ∙ f ∙ read_value xs z in
    ap Some v ∙ sym (cond-true (is_number xs) (Some (value xs)) None (and_from (leb 1 (length xs)) (leb (length xs) 5 && all_ascii_digits xs) (le-leb _ _ a) (and_from (leb (length xs) 5) (all_ascii_digits xs) (le-leb _ _ b) z)))
