-- The words of a printed line.
use Rattle.std.proofs.Common.{ℕ, zero, suc, ◌+◌, ◌/◌, ◌%◌, ◌<◌, false, eqb, ltb, List, [], ◌∷◌, length, ℤ, pos, negsuc, Some, None, codes, decimal, refl, arith, lit<}
use Rattle.std.specs.Str.Iter.{LacksByte}
use Rattle.std.specs.Fmt.{digits, digits_onto, digit_glyph, signed_decimal}
use Rattle.std.specs.List.{AllByRecursion}
use Rattle.std.proofs.lemmas.Bool.{cond_both}
use Rattle.commands.specs.Lines.{line_end, space}
use Rattle.commands.specs.Orders.{Order, high, left, ask, at, run, tol, unknown, verb_of}
use Rattle.transcripts.specs.Entries.{dash}
use Rattle.transcripts.specs.Talks.{IsWord, SixWords}

-- bytes above the space
abbrev Visible : List ℕ → Type 0
Visible w = AllByRecursion (λ b. 32 < b) w

lacks : (c : ℕ) → c < 33 → (w : List ℕ) → Visible w → LacksByte c w
lacks c h [] v k l e = absurd (omega arith)
lacks c h (b ∷ w) v zero l e = let m = v.0 in absurd (omega arith)
lacks c h (b ∷ w) v (suc k) l e = lacks c h w v.1 k (omega arith) e

word : (w : List ℕ) → 0 < length w → Visible w → IsWord w
word w s v = record { some = s; no_space = lacks space (omega arith) w v; no_end = lacks line_end (omega arith) w v }

-- a number's digits are visible, and there is one at least
glyph_visible : (d : ℕ) → 32 < digit_glyph false d
glyph_visible d = cond_both (ltb d 10) (48 + d) (87 + d) (λ g. 32 < g) (λ _. omega arith) (λ _. omega arith)

spelled_visible : (k n : ℕ) (rest : List ℕ) → Visible rest → Visible (digits_onto k 10 false n rest)
spelled_visible zero n rest v = v
spelled_visible (suc k) n rest v =
    cond_both (eqb (n / 10) 0) (digit_glyph false (n % 10) ∷ rest) (digits_onto k 10 false (n / 10) (digit_glyph false (n % 10) ∷ rest)) Visible
    (λ _. (glyph_visible (n % 10), v))
    (λ _. spelled_visible k (n / 10) (digit_glyph false (n % 10) ∷ rest) (glyph_visible (n % 10), v))

spelled_some : (k n : ℕ) (rest : List ℕ) → 0 < length rest → 0 < length (digits_onto k 10 false n rest)
spelled_some zero n rest h = h
spelled_some (suc k) n rest h =
    cond_both (eqb (n / 10) 0) (digit_glyph false (n % 10) ∷ rest) (digits_onto k 10 false (n / 10) (digit_glyph false (n % 10) ∷ rest)) (λ w. 0 < length w)
    (λ _. omega arith)
    (λ _. spelled_some k (n / 10) (digit_glyph false (n % 10) ∷ rest) (omega arith))

decimal_visible : (n : ℕ) → Visible (decimal n)
unfolding digits
decimal_visible n = spelled_visible 64 n [] tt

decimal_some : (n : ℕ) → 0 < length (decimal n)
unfolding digits
decimal_some n =
    cond_both (eqb (n / 10) 0) (digit_glyph false (n % 10) ∷ []) (digits_onto 63 10 false (n / 10) (digit_glyph false (n % 10) ∷ [])) (λ w. 0 < length w)
    (λ _. omega arith)
    (λ _. spelled_some 63 (n / 10) (digit_glyph false (n % 10) ∷ []) (omega arith))

number_word : (n : ℕ) → IsWord (decimal n)
number_word n = word (decimal n) (decimal_some n) (decimal_visible n)

signed_word : (z : ℤ) → IsWord (signed_decimal z)
signed_word (pos n) = number_word n
signed_word (negsuc n) = word (45 ∷ decimal (suc n)) (omega arith) (lit< tt, decimal_visible (suc n))

dash_word : IsWord dash
dash_word = word dash (lit< tt) (lit< tt, tt)

verb_word : (o : Order) → IsWord (verb_of o)
verb_word (high v) = word (codes "high") (lit< tt) (lit< tt, (lit< tt, (lit< tt, (lit< tt, tt))))
verb_word (left v) = word (codes "left") (lit< tt) (lit< tt, (lit< tt, (lit< tt, (lit< tt, tt))))
verb_word (ask v) = word (codes "ask") (lit< tt) (lit< tt, (lit< tt, (lit< tt, tt)))
verb_word (at v d n) = word (codes "at") (lit< tt) (lit< tt, (lit< tt, tt))
verb_word (run v d n) = word (codes "run") (lit< tt) (lit< tt, (lit< tt, (lit< tt, tt)))
verb_word (tol v d n) = word (codes "tol") (lit< tt) (lit< tt, (lit< tt, (lit< tt, tt)))
verb_word (unknown l) = word (codes "?") (lit< tt) (lit< tt, tt)

pub six_words : SixWords
six_words o number touches None = record { six = refl; each = (verb_word o, (number_word number, (number_word touches, (dash_word, (dash_word, (dash_word, tt)))))) }
six_words o number touches (Some b) = record { six = refl; each = (verb_word o, (number_word number, (number_word touches, (number_word b.floor.position, (signed_word b.floor.height, (signed_word b.ceiling, tt)))))) }
