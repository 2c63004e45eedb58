-- The layers keep the law of gauges.
use Rattle.std.specs.Prelude.{◌≡◌, ℕ, zero, suc, ◌+◌, ◌-◌, ◌*◌, ◌%◌, ◌<◌, ◌≤◌, min, max, Bool, true, false, ◌⊎◌, ℤ, pos, negsuc, ◌-ℤ◌, neg_ℤ, ◌≤ℤ◌, nat_le, unsigned_abs, refl}
use Rattle.std.proofs.Common.{inl, inr, mod-lt, add-mul, mul-le-mul_right, arith, leb-true, leb-false}
use Rattle.std.specs.Int.{int_max, int_rem_euclid}
use Rattle.std.proofs.lemmas.Int.{ints, clamps}
use Rattle.terms.specs.Limits.{slope_max, slack_max, step_max}
use Rattle.terms.specs.Meaning.{Meaning, Lawful, Height}
use Rattle.gauges.proofs.Layers.{over_lawful, join_lawful}
use Rattle.layers.specs.Layers.{flip_meaning, coarse_height, coarse_meaning, higher_meaning, sum_height, sum_slope, sum_slack, sum_meaning}

pub flip_lawful : (m : Meaning) → Lawful m → Lawful (flip_meaning m)
flip_lawful m l =
    over_lawful neg_ℤ m.slack m l l.slack_high
    record {
      range = λ x b. record { low = omega (arith, ints, b.high); high = omega (arith, ints, b.low) };
      near = λ d x y _ _ w. omega (arith, ints);
    }

-- the remainder is from 0 to q - 1
pub rem_bounds : (h : ℤ) (q : ℕ) → 1 ≤ q → (pos 0 ≤ℤ int_rem_euclid h (pos q)) × (int_rem_euclid h (pos q) ≤ℤ pos (q - 1))
rem_bounds (pos a) q w = let b : a % q < q = mod-lt a (omega arith) in (omega (arith, ints), omega (arith, ints))
rem_bounds (negsuc a) q w = let b : a % q < q = mod-lt a (omega arith) in (omega (arith, ints), omega (arith, ints))

pub coarse_lawful : (q : ℕ) → (1 ≤ q) × (q ≤ step_max) → (m : Meaning) → Lawful m → Lawful (coarse_meaning q m)
coarse_lawful q steps m l =
    over_lawful (coarse_height q) (min (m.slack + (q - 1)) slack_max) m l (omega arith)
    record {
      range = λ x b. let r = rem_bounds x q steps.0 in record { low = omega (arith, ints, clamps); high = omega (arith, ints, clamps, r.0, b.high) };
      near = λ d x y bx by w.
          let r = rem_bounds x q steps.0 in
          let s = rem_bounds y q steps.0 in
          omega (arith, ints, clamps, r.0, r.1, s.0, s.1, bx.low, bx.high, by.low, by.high, steps.0);
    }

pub higher_lawful : (m n : Meaning) → Lawful m → Lawful n → Lawful (higher_meaning m n)
higher_lawful m n l r =
    join_lawful int_max (max m.slope n.slope) (max m.slack n.slack) m n l r
    (omega (arith, l.slope_low), omega (arith, l.slope_high, r.slope_high))
    (omega (arith, l.slack_high, r.slack_high))
    record {
      range = λ a b x y. record { low = omega (arith, ints, clamps, x.low); high = omega (arith, ints, clamps, x.high, y.high) };
      near = λ d a b x y v w.
          let s : m.slope * d ≤ max m.slope n.slope * d = mul-le-mul_right d (omega arith) in
          let t : n.slope * d ≤ max m.slope n.slope * d = mul-le-mul_right d (omega arith) in
          omega (arith, ints, clamps);
    }

-- the sum of the slopes over d, or, where it is cut, at least the range of heights
two_slopes : (s t d : ℕ) (b : Bool) → nat_le (s + t) slope_max ≡ b → (s * d + t * d ≤ min (s + t) slope_max * d) ⊎ (slope_max ≤ min (s + t) slope_max * d)
two_slopes s t d true i =
    let w = leb-true (s + t) slope_max i in
    let m : min (s + t) slope_max ≡ s + t = omega arith in
    let n = add-mul s t d in
    inl (rw m (omega arith))
two_slopes s t zero false i = inl (omega arith)
two_slopes s t (suc d) false i =
    let w = leb-false (s + t) slope_max i in
    let m : min (s + t) slope_max ≡ slope_max = omega arith in
    inr (rw m (omega arith))

sum_near : (a b c d : ℤ) (g i s t f u : ℕ) → unsigned_abs (a -ℤ c) ≤ g + s → unsigned_abs (b -ℤ d) ≤ i + t → (g + i ≤ f) ⊎ (slope_max ≤ f) → u ≡ min (s + t) slack_max → unsigned_abs (sum_height a b -ℤ sum_height c d) ≤ f + u
unfolding sum_height
sum_near a b c d g i s t f u x y (inl z) e = omega (arith, ints, clamps)
sum_near a b c d g i s t f u x y (inr z) e = omega (arith, ints, clamps)

sum_ranged : (a b : ℤ) → Height (sum_height a b)
unfolding sum_height
sum_ranged a b = record { low = omega (arith, ints, clamps); high = omega (arith, ints, clamps) }

pub sum_lawful : (m n : Meaning) → Lawful m → Lawful n → Lawful (sum_meaning m n)
sum_lawful m n l r =
    join_lawful sum_height (sum_slope m.slope n.slope) (sum_slack m.slack n.slack) m n l r
    (omega (arith, l.slope_low), omega arith)
    (omega arith)
    record {
      range = λ a b x y. sum_ranged a b;
      near = λ d a b x y v w.
          sum_near a b x y (m.slope * d) (n.slope * d) m.slack n.slack _ _ v w (two_slopes m.slope n.slope d (nat_le (m.slope + n.slope) slope_max) refl) refl;
    }
