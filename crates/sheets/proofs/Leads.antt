-- One more position keeps what a summary says.
use Rattle.std.proofs.Common.{◌≡◌, ℕ, zero, suc, ◌+◌, ◌≤◌, true, false, ℤ, neg_ℤ, ◌≤ℤ◌, ◌<ℤ◌, Some, None, Ok, Err, Option, sym, ap, ◌∙◌, ⊎_elim, add-one, arith, below_more}
use lib.Signed.{lt_z}
use Rattle.std.proofs.lemmas.Int.{ints}
use Rattle.std.proofs.lemmas.Bool.{cases_Bool}
use Rattle.terms.specs.declared.fault.Fault.{Fault}
use Rattle.terms.specs.Meaning.{Meaning, Reading}
use Rattle.sheets.specs.declared.summary.Spot.{Spot}
use Rattle.sheets.specs.declared.summary.Summary.{Summary}
use Rattle.sheets.specs.Summaries.{readable_before, one_if_readable, itself, HighestBefore, Summarizes, led, with_reading}

not_under : (a b : ℤ) → lt_z a b ≡ false → b ≤ℤ a
not_under a b e = grind (arith, ints)

under : (a b : ℤ) → lt_z a b ≡ true → a <ℤ b
under a b e = grind (arith, ints)

module _ (rank : ℤ → ℤ) (m : Meaning) (n : ℕ) where
  -- a position without a height changes nothing
  pub skipped : (f : Fault) → m.reading n ≡ Err f → (best : Option Spot) → HighestBefore rank m n best → HighestBefore rank m (n + 1) best
  skipped f e None none = below_more _ n none (λ h i. let z : ◌≡◌ {A = ℕ} 0 1 = cc in omega arith)
  skipped f e (Some spot) s = record {
    before = omega (arith, s.before);
    read = s.read;
    most = below_more _ n s.most (λ h i. let z : ◌≡◌ {A = ℕ} 0 1 = cc in absurd (omega arith));
    first = s.first;
  }

  -- a readable one may lead
  pub one_more : (h : ℤ) → m.reading n ≡ Ok h → (best : Option Spot) → HighestBefore rank m n best → HighestBefore rank m (n + 1) (led rank best (record { position = n; height = h }))
  one_more h e None none = record {
    before = omega arith;
    read = e;
    most = below_more _ n (λ p l k i. absurd (none p l k i)) (λ k i. let w : h ≡ k = cc in omega (arith, ints, ap rank w));
    first = λ p l k i. absurd (none p l k i);
  }
  one_more h e (Some held) s =
      ⊎_elim
      (λ (t : lt_z (rank held.height) (rank h) ≡ true). let u = under (rank held.height) (rank h) t in rw t (record {
        before = omega arith;
        read = e;
        most = below_more _ n (λ p l k i. omega (arith, ints, s.most p l k i)) (λ k i. let w : h ≡ k = cc in omega (arith, ints, ap rank w));
        first = λ p l k i. omega (arith, ints, s.most p l k i);
      }))
      (λ (t : lt_z (rank held.height) (rank h) ≡ false). let u = not_under (rank held.height) (rank h) t in rw t (record {
        before = omega (arith, s.before);
        read = s.read;
        most = below_more _ n s.most (λ k i. let w : h ≡ k = cc in omega (arith, ints, ap rank w));
        first = s.first;
      }))
      (cases_Bool (lt_z (rank held.height) (rank h)))

pub readable_more : (m : Meaning) (n : ℕ) → readable_before m (n + 1) ≡ readable_before m n + one_if_readable (m.reading n)
readable_more m n = rw add-one

-- a summary with one reading more
pub summarizes_more : (m : Meaning) (n : ℕ) (s : Summary) → Summarizes m n s → (r : Reading) → m.reading n ≡ r → Summarizes m (n + 1) (with_reading s n r)
summarizes_more m n s so_far (Ok h) e = record {
  readable = ap (λ k. k + 1) so_far.readable ∙ sym (readable_more m n ∙ ap (λ r. readable_before m n + one_if_readable r) e);
  lowest = one_more neg_ℤ m n h e s.lowest so_far.lowest;
  highest = one_more itself m n h e s.highest so_far.highest;
}
summarizes_more m n s so_far (Err f) e = record {
  readable = so_far.readable ∙ omega (arith, readable_more m n ∙ ap (λ r. readable_before m n + one_if_readable r) e);
  lowest = skipped neg_ℤ m n f e s.lowest so_far.lowest;
  highest = skipped itself m n f e s.highest so_far.highest;
}

pub readable_few : (m : Meaning) (n : ℕ) → readable_before m n ≤ n
readable_few m zero = omega arith
readable_few m (suc n) = omega (arith, readable_few m n, at_most_one (m.reading n))
  where
    at_most_one : (r : Reading) → one_if_readable r ≤ 1
    at_most_one (Ok h) = omega arith
    at_most_one (Err f) = omega arith
