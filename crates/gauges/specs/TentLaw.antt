-- A tent keeps the law of gauges.
use Rattle.std.specs.Prelude.{◌≡◌, ℕ, ◌+◌, ◌*◌, ◌≤◌, ℤ, ◌≤ℤ◌, Ok, Err, ◌≢◌, refl}
use Rattle.std.proofs.Common.{sym, ◌∙◌, mul-le-mul_left, mul-add, arith}
use Rattle.std.proofs.lemmas.Int.{ints, clamps}
use Rattle.terms.specs.declared.fault.Fault.{Fault}
use Rattle.terms.specs.Faults.{beyond}
use Rattle.terms.specs.Limits.{last_max, slope_max, highest_height}
use Rattle.terms.specs.Meaning.{Lawful, Height, Keeps, distance}
use Rattle.gauges.specs.Reach.{within_is, past_is, up_to_ok, up_to_asked}
use Rattle.gauges.specs.Tents.{tent_meaning, tent_height}

triangle : (p q c : ℕ) → distance q c ≤ distance p q + distance p c
unfolding distance
triangle p q c = omega arith

back : (p q : ℕ) → distance q p ≡ distance p q
unfolding distance
back p q = omega arith

no_fault : (h : ℤ) (f : Fault) → Ok h ≢ Err f
no_fault h f e = cc

module _ (last slope crown : ℕ) (height : ℤ) (name : ℕ) where
  tent_is : (p : ℕ) (h : ℤ) → (tent_meaning last slope crown height name).reading p ≡ Ok h → h ≡ tent_height slope crown height p
  tent_is p h e = let r = up_to_ok last name p (Ok (tent_height slope crown height p)) h e in cc

  tent_ranged : height ≤ℤ highest_height → (p : ℕ) (h : ℤ) → h ≡ tent_height slope crown height p → Height h
  tent_ranged high p h e = record { low = omega (arith, ints, clamps, e); high = omega (arith, ints, clamps, e, high) }

  -- slope × distance from the crown differs by at most slope × distance
  falls : (p q : ℕ) → slope * distance q crown ≤ slope * distance p q + slope * distance p crown
  falls p q = omega (arith, mul-le-mul_left slope (triangle p q crown), mul-add slope (distance p q) (distance p crown))

  tent_near : (p q : ℕ) (h k : ℤ) → h ≡ tent_height slope crown height p → k ≡ tent_height slope crown height q → Keeps slope 0 p q h k
  tent_near p q h k e d =
      let there = falls p q in
      let again = rw (back p q) at (falls q p) in
      omega (arith, ints, clamps, e, d, there, again)

  pub tent_lawful : (1 ≤ last) × (last ≤ last_max) → (1 ≤ slope) × (slope ≤ slope_max) → height ≤ℤ highest_height → Lawful (tent_meaning last slope crown height name)
  tent_lawful lasts slopes high = record {
    last_low = lasts.0;
    last_high = lasts.1;
    slope_low = slopes.0;
    slope_high = slopes.1;
    slack_high = omega arith;
    heights = λ p h e. tent_ranged high p h (tent_is p h e);
    missing = λ p f w e. absurd (no_fault (tent_height slope crown height p) f (sym (within_is last name p _ w) ∙ e));
    past = λ p w. (beyond p name, past_is last name p _ w, refl);
    asked = λ p f e. up_to_asked last name p _ f (λ d i. absurd (no_fault (tent_height slope crown height p) d i)) e;
    near = λ p q h k e d. tent_near p q h k (tent_is p h e) (tent_is q k d);
  }
