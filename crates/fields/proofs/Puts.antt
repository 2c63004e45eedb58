-- What one bit written leaves of a byte, and of a byte list.
use Rattle.std.proofs.Common.{◌≡◌, ℕ, ◌+◌, ◌-◌, ◌*◌, ◌/◌, ◌%◌, ◌^◌, ◌<◌, ◌≤◌, List, length, get_or, drop, set, sym, ap, ◌∙◌, subst, ⊎_elim, mul_assoc, arith, below_more}
use native.Mathlib.Nat.{mul-mod_left}
use Rattle.std.proofs.lemmas.Nat.{pow-add, mod-mul-add, div-mul-add, shr-shr, shl-shr, shr_below, shl_below}
use Rattle.std.proofs.lemmas.List.{get_or-set_same, get_or-set_other, drop-set-lt, drop-drop}
use Rattle.std.proofs.lemmas.Bool.{cases_eq}
use Rattle.fields.specs.Bits.{bit, stamped}

module _ (b o v : ℕ) (lo : o < 8) (lv : v < 2) where
  pub stamped_before : (p : ℕ) → p < o → stamped b o v / 2 ^ (7 - p) % 2 ≡ b / 2 ^ (7 - p) % 2
  unfolding stamped
  stamped_before p l =
      let x : ℕ = b / 2 ^ (8 - o) * 2 + v in
      let e : 7 - p ≡ (7 - o) + (1 + (o - p - 1)) = omega arith in
      let g : 8 - o + (o - p - 1) ≡ 7 - p = omega arith in
      let s : x * 2 ^ (7 - o) / 2 ^ (7 - p) ≡ b / 2 ^ (7 - p) =
      ap (λ n. x * 2 ^ (7 - o) / 2 ^ n) e
      ∙ sym (shr-shr (x * 2 ^ (7 - o)) (7 - o) (1 + (o - p - 1)))
      ∙ ap (λ n. n / 2 ^ (1 + (o - p - 1))) (shl-shr x (7 - o))
      ∙ sym (shr-shr x 1 (o - p - 1))
      ∙ ap (λ n. n / 2 ^ (o - p - 1)) (div-mul-add (b / 2 ^ (8 - o)) 2 v lv)
      ∙ shr-shr b (8 - o) (o - p - 1)
      ∙ ap (λ n. b / 2 ^ n) g in
      ap (λ n. n % 2) s

  pub stamped_at : stamped b o v / 2 ^ (7 - o) % 2 ≡ v
  unfolding stamped
  stamped_at = ap (λ n. n % 2) (shl-shr (b / 2 ^ (8 - o) * 2 + v) (7 - o)) ∙ mod-mul-add (b / 2 ^ (8 - o)) 2 v lv

  pub stamped_pad : (p : ℕ) → o < p → p < 8 → stamped b o v / 2 ^ (7 - p) % 2 ≡ 0
  unfolding stamped
  stamped_pad p l m =
      let x : ℕ = b / 2 ^ (8 - o) * 2 + v in
      let e : 7 - o ≡ (p - o - 1) + 1 + (7 - p) = omega arith in
      let s : x * 2 ^ (7 - o) ≡ x * 2 ^ (p - o - 1) * 2 * 2 ^ (7 - p) =
      ap (λ n. x * 2 ^ n) e ∙ ap (λ n. x * n) (pow-add 2 (p - o - 1 + 1) (7 - p) ∙ ap (λ n. n * 2 ^ (7 - p)) (pow-add 2 (p - o - 1) 1)) ∙ simp mul_assoc in
      ap (λ n. n / 2 ^ (7 - p) % 2) s ∙ ap (λ n. n % 2) (shl-shr (x * 2 ^ (p - o - 1) * 2) (7 - p)) ∙ mul-mod_left (x * 2 ^ (p - o - 1)) 2

  pub stamped_high : b < 256 → b / 2 ^ (8 - o) * 2 + v < 2 ^ (o + 1)
  stamped_high small =
      let e : 256 ≡ 2 ^ (o + (8 - o)) = let g : o + (8 - o) ≡ 8 = omega arith in ap (λ n. 2 ^ n) (sym g) in
      let h : b / 2 ^ (8 - o) < 2 ^ o = shr_below b o (8 - o) (subst (λ n. b < n) e small) in
      omega (arith, pow-add 2 o 1, h)

  pub stamped_small : b < 256 → stamped b o v < 256
  unfolding stamped
  stamped_small small =
      let g : o + 1 + (7 - o) ≡ 8 = omega arith in
      subst (λ n. (b / 2 ^ (8 - o) * 2 + v) * 2 ^ (7 - o) < 2 ^ n) g (shl_below (b / 2 ^ (8 - o) * 2 + v) (o + 1) (7 - o) (stamped_high small))

module _ (bs : List ℕ) (i v : ℕ) (inside : i / 8 < length bs) (lv : v < 2) where
  abbrev put1 : List ℕ
  put1 = set bs (i / 8) (stamped (get_or bs (i / 8) 0) (i % 8) v)

  here : get_or put1 (i / 8) 0 ≡ stamped (get_or bs (i / 8) 0) (i % 8) v
  here = get_or-set_same bs (i / 8) _ 0 inside

  pub put1_before : (j : ℕ) → j < i → bit put1 j ≡ bit bs j
  put1_before j l =
      ⊎_elim
      (λ e. let m : j % 8 < i % 8 = omega arith in
      ap (λ q. get_or put1 q 0 / 2 ^ (7 - j % 8) % 2) e ∙ ap (λ y. y / 2 ^ (7 - j % 8) % 2) here
      ∙ stamped_before (get_or bs (i / 8) 0) (i % 8) v (omega arith) lv (j % 8) m ∙ ap (λ q. get_or bs q 0 / 2 ^ (7 - j % 8) % 2) (sym e))
      (λ ne. ap (λ y. y / 2 ^ (7 - j % 8) % 2) (get_or-set_other bs (i / 8) (j / 8) _ 0 ne))
      (cases_eq (j / 8) (i / 8))

  pub put1_at : bit put1 i ≡ v
  put1_at = ap (λ y. y / 2 ^ (7 - i % 8) % 2) here ∙ stamped_at (get_or bs (i / 8) 0) (i % 8) v (omega arith) lv

  pub put1_pad : (j : ℕ) → i < j → j < 8 * (i / 8 + 1) → bit put1 j ≡ 0
  put1_pad j l m =
      let e : j / 8 ≡ i / 8 = omega arith in
      ap (λ q. get_or put1 q 0 / 2 ^ (7 - j % 8) % 2) e ∙ ap (λ y. y / 2 ^ (7 - j % 8) % 2) here
      ∙ stamped_pad (get_or bs (i / 8) 0) (i % 8) v (omega arith) lv (j % 8) (omega arith) (omega arith)

  pub put1_after : (n : ℕ) → i / 8 < n → drop n put1 ≡ drop n bs
  put1_after n l = drop-set-lt n bs (i / 8) _ l

pub drop-later : (xs ys : List ℕ) (n m : ℕ) → n ≤ m → drop n xs ≡ drop n ys → drop m xs ≡ drop m ys
drop-later xs ys n m l e =
    let g : n + (m - n) ≡ m = omega arith in
    ap (λ k. drop k xs) (sym g) ∙ sym (drop-drop (m - n) n xs) ∙ ap (drop (m - n)) e ∙ drop-drop (m - n) n ys ∙ ap (λ k. drop k ys) g

-- new is old with the first k of the value's bits written at a, and 0 bits up to a whole byte
pub record Put (old : List ℕ) (a width value k : ℕ) (new : List ℕ) : Type 0 where
  pub before : (i : ℕ) → i < a → bit new i ≡ bit old i
  pub written : (j : ℕ) → j < k → bit new (a + j) ≡ value / 2 ^ (width - 1 - j) % 2
  pub pad : (i : ℕ) → a + k ≤ i → i < 8 * ((a + k + 7) / 8) → 0 < k → bit new i ≡ 0
  pub after : drop ((a + k + 7) / 8) new ≡ drop ((a + k + 7) / 8) old

module _ (old : List ℕ) (a width value k : ℕ) (bs : List ℕ) (h : Put old a width value k bs) (v : ℕ) (is : v ≡ value / 2 ^ (width - 1 - k) % 2) (ins : (a + k) / 8 < length bs) where
  pub put_more : Put old a width value (k + 1) (set bs ((a + k) / 8) (stamped (get_or bs ((a + k) / 8) 0) ((a + k) % 8) v))
  put_more =
      let lv : v < 2 = omega arith in
      let i : ℕ = a + k in
      record {
        before = λ j l. put1_before bs i v ins lv j (omega arith) ∙ h.before j l;
        written = below_more _ k (λ j l. put1_before bs i v ins lv (a + j) (omega arith) ∙ h.written j l) (put1_at bs i v ins lv ∙ is);
        pad = λ j l m p. put1_pad bs i v ins lv j (omega arith) (omega arith);
        after = put1_after bs i v ins lv ((a + (k + 1) + 7) / 8) (omega arith) ∙ drop-later bs old ((a + k + 7) / 8) ((a + (k + 1) + 7) / 8) (omega arith) h.after;
      }
