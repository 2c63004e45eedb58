-- The height less its remainder is the greatest multiple of the step at or below the height.
use Rattle.std.proofs.Common.{◌≡◌, ℕ, suc, ◌+◌, ◌*◌, ◌/◌, ◌%◌, ◌<◌, ◌≤◌, Bool, true, false, leb, ℤ, pos, negsuc, ◌+ℤ◌, ◌-ℤ◌, ◌≤ℤ◌, ◌<ℤ◌, refl, ap, mul-le-mul_right, mod-lt, suc-mul, add-mul, div-add-mod', arith, leb-false, leb-true}
use Rattle.std.proofs.lemmas.Int.{ints}
use Rattle.terms.specs.Meaning.{Meaning}
use Rattle.gauges.specs.Layering.{over}
use Rattle.layers.specs.Layers.{rounded_down, coarse_height}
use Rattle.layers.specs.Laws.{rem_bounds}
use Rattle.layers.specs.Multiples.{Multiple, GreatestMultiple, ReadsGreatestMultiples}

rounded_multiple : (q : ℕ) → 1 ≤ q → (h : ℤ) → Multiple q (rounded_down q h)
rounded_multiple q w (pos a) = (pos (a / q), omega (arith, ints, div-add-mod' a q))
rounded_multiple q w (negsuc a) =
    let b : a % q < q = mod-lt a (omega arith) in
    (negsuc (a / q), omega (arith, ints, div-add-mod' a q, suc-mul (a / q) q))

-- a multiple as the difference of two natural ones
difference : (q : ℕ) (g : ℤ) → Multiple q g → (a : ℕ) × (b : ℕ) × (g ≡ pos (a * q) -ℤ pos (b * q))
difference q g (pos k, e) = (k, 0, omega (arith, ints, e))
difference q g (negsuc k, e) = (0, suc k, omega (arith, ints, e))

-- two multiples of q are ordered, or a whole step apart
compared : (q : ℕ) (x g : ℤ) (a b c d : ℕ) (t : Bool) → leb (a + d) (c + b) ≡ t → x ≡ pos (a * q) -ℤ pos (b * q) → g ≡ pos (c * q) -ℤ pos (d * q) → x <ℤ (g +ℤ pos q) → x ≤ℤ g
compared q x g a b c d true i ex eg l =
    let m : (a + d) * q ≤ (c + b) * q = mul-le-mul_right q (leb-true (a + d) (c + b) i) in
    omega (arith, ints, m, add-mul a d q, add-mul c b q)
compared q x g a b c d false i ex eg l =
    let w : c + b < a + d = leb-false (a + d) (c + b) i in
    let m : suc (c + b) * q ≤ (a + d) * q = mul-le-mul_right q (omega arith) in
    omega (arith, ints, m, suc-mul (c + b) q, add-mul a d q, add-mul c b q)

pub greatest_multiple : (q : ℕ) → 1 ≤ q → (h : ℤ) → GreatestMultiple q h (rounded_down q h)
greatest_multiple q w h =
    let r = rem_bounds h q w in
    record {
      multiple = rounded_multiple q w h;
      at_or_below = omega (arith, ints, r.0);
      greatest = λ x m l.
          let u = difference q x m in
          let v = difference q (rounded_down q h) (rounded_multiple q w h) in
          compared q x (rounded_down q h) u.0 u.1 v.0 v.1 (leb (u.0 + v.1) (v.0 + u.1)) refl u.2 v.2 (omega (arith, ints, r.1, w));
    }

pub reads_greatest : (q : ℕ) → 1 ≤ q → (m : Meaning) → ReadsGreatestMultiples q m
reads_greatest q w m p h e = (rounded_down q h, greatest_multiple q w h, ap (over (coarse_height q)) e)
