-- Two's complement, over any width.
use Rattle.std.proofs.Common.{◌≡◌, ℕ, suc, ◌+◌, ◌-◌, ◌*◌, ◌%◌, ◌^◌, ◌<◌, ℤ, pos, negsuc, ap, ◌∙◌, ⊎_elim, mod-eq_of_lt, arith}
use Rattle.std.proofs.lemmas.Nat.{pow_pos, mod_below}
use Rattle.std.proofs.lemmas.Bool.{lt-ltb, le-ltb, cases_lt}
use Rattle.fields.specs.Bits.{signed_of, complement_of, FitsSigned}
use Rattle.fields.proofs.Laws.{pow_more}

pub complement_lt : (w : ℕ) (z : ℤ) → complement_of w z < 2 ^ w
complement_lt w (pos a) = mod_below a (2 ^ w) (pow_pos w)
complement_lt w (negsuc a) = omega (arith, pow_pos w)

half : (w : ℕ) → 0 < w → 2 ^ w ≡ 2 * 2 ^ (w - 1)
half w l = let e : w ≡ (w - 1) + 1 = omega arith in ap (λ k. 2 ^ k) e ∙ pow_more (w - 1)

pub signed_complement : (w : ℕ) (z : ℤ) → 0 < w → FitsSigned w z → signed_of w (complement_of w z) ≡ z
signed_complement w (pos a) l h =
    let e : a % 2 ^ w ≡ a = mod-eq_of_lt (omega (arith, half w l)) in
    rw (e, lt-ltb a (2 ^ (w - 1)) h)
signed_complement w (negsuc a) l h =
    let e : a % 2 ^ w ≡ a = mod-eq_of_lt (omega (arith, half w l)) in
    let g : 2 ^ w - suc (2 ^ w - 1 - a) ≡ a = omega (arith, half w l) in
    let t = le-ltb (2 ^ w - 1 - a) (2 ^ (w - 1)) (omega (arith, half w l)) in
    rw (e, t, g)

pub complement_signed : (w n : ℕ) → 0 < w → n < 2 ^ w → complement_of w (signed_of w n) ≡ n
complement_signed w n l h =
    ⊎_elim
    (λ s. rw (lt-ltb n (2 ^ (w - 1)) s) (mod-eq_of_lt h))
    (λ s.
    let e : (2 ^ w - suc n) % 2 ^ w ≡ 2 ^ w - suc n = mod-eq_of_lt (omega arith) in
    rw (le-ltb n (2 ^ (w - 1)) s, e) (omega arith))
    (cases_lt n (2 ^ (w - 1)))
