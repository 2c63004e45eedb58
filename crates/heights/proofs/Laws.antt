-- A list of heights that passes the tests is a lawful gauge.
use Rattle.std.proofs.Common.{◌≡◌, ℕ, ◌+◌, ◌-◌, ◌*◌, ◌<◌, ◌≤◌, Bool, true, false, cond, not, ◌&&◌, ltb, List, length, ℤ, ◌-ℤ◌, nat_abs, is_some, is_ok, Some, None, Ok, Err, Option, sym, refl, ap, ◌∙◌, ⊎_elim, arith}
use Rattle.std.proofs.lemmas.Int.{ints}
use Rattle.std.proofs.lemmas.Bool.{cases_order, lt-ltb, le-ltb, ltb-false, and_from, and_cases, not_from_false, both_ways, cond-true, cond-false}
use Rattle.terms.specs.declared.fault.Fault.{Fault}
use Rattle.terms.specs.declared.fault.Cause.TheVariants.{Unread}
use Rattle.heights.specs.Heights.{height_at, marked, lowest, breaks, partner, with_partner, paired, first_break}
use Rattle.heights.specs.Verdicts.{sheet_verdict, name_verdict, table_verdict}
use Rattle.terms.specs.Faults.{beyond, unread}
use Rattle.terms.specs.Meaning.{Lawful, Reading, Keeps, distance}
use Rattle.heights.specs.Lists.{entry_reading, list_reading, list_meaning}
use Rattle.heights.proofs.Lowest.{is_lowest, none_lowest}
use Rattle.heights.proofs.Pairs.{ranged_at}
use Rattle.heights.proofs.Verdicts.{sheet_ok, both_ok}

some_or_none : {A : Type 0} (o : Option A) → is_some o ≡ false → o ≡ None
some_or_none None h = refl
some_or_none (Some x) h = absurd (both_ways true h refl)

-- a position told is one with a partner, so that a break is told
paired_none : (later : ℕ) (o : Option ℕ) → paired later o ≡ None → o ≡ None
paired_none later None e = refl
paired_none later (Some x) e = cc

with_none : (f : ℕ → Option ℕ) (o : Option ℕ) → ((q : ℕ) → o ≡ Some q → is_some (f q) ≡ true) → with_partner f o ≡ None → o ≡ None
with_none f None h e = refl
with_none f (Some q) h e = absurd (both_ways (is_some (f q)) (ap is_some (paired_none q (f q) e)) (h q refl))

module _ (slope slack : ℕ) (xs : List ℤ) (none : first_break slope slack xs ≡ None) where
  pub no_partner : (j : ℕ) → j < length xs → partner slope slack xs j ≡ None
  no_partner j l =
      let test : ℕ → Bool = λ k. is_some (partner slope slack xs k) in
      let o = with_none (partner slope slack xs) (lowest test 0 (length xs)) (λ q e. (is_lowest test 0 (length xs) q e).passes) none in
      some_or_none (partner slope slack xs j) (none_lowest test 0 (length xs) o j (omega arith) (omega arith))

  -- every two readable heights keep the law
  pub pair_kept : (i j : ℕ) → i < j → j < length xs → marked (height_at xs i) ≡ false → marked (height_at xs j) ≡ false → nat_abs (height_at xs i -ℤ height_at xs j) ≤ slope * (j - i) + slack
  pair_kept i j l m a b =
      ⊎_elim
      (λ f. absurd (both_ways (not (marked (height_at xs i)) && not (marked (height_at xs j))) f (and_from _ _ (not_from_false _ a) (not_from_false _ b))))
      (λ f. ltb-false _ _ f)
      (and_cases _ _ (none_lowest (breaks slope slack xs j) 0 j (no_partner j m) i (omega arith) (omega arith)))

  turned : (x y : ℤ) (d e : ℕ) → slope * d ≡ slope * e → nat_abs (x -ℤ y) ≤ slope * e + slack → (nat_abs (x -ℤ y) ≤ slope * d + slack) × (nat_abs (y -ℤ x) ≤ slope * d + slack)
  turned x y d e f h = (omega (arith, ints), omega (arith, ints))

  pub kept_near : (p q : ℕ) → p < length xs → q < length xs → marked (height_at xs p) ≡ false → marked (height_at xs q) ≡ false → Keeps slope slack p q (height_at xs p) (height_at xs q)
  unfolding distance
  kept_near p q l m a b =
      ⊎_elim
      (λ (e : p ≡ q). let f = ap (height_at xs) e in omega (arith, ints, f))
      (λ c. ⊎_elim
      (λ (w : p < q). let e : distance p q ≡ q - p = omega arith in (turned (height_at xs p) (height_at xs q) (distance p q) (q - p) (ap (λ k. slope * k) e) (pair_kept p q w m a b)).0)
      (λ (w : q < p). let e : distance p q ≡ p - q = omega arith in (turned (height_at xs q) (height_at xs p) (distance p q) (p - q) (ap (λ k. slope * k) e) (pair_kept q p w l b a)).1)
      c)
      (cases_order p q)

unless_ok : (b : Bool) (f : Fault) (r : Reading) (h : ℤ) → cond b (Err f) r ≡ Ok h → (b ≡ false) × (r ≡ Ok h)
unless_ok true f r h e = cc
unless_ok false f r h e = (refl, e)

unread_cause : (b : Bool) (p name : ℕ) (h : ℤ) (f : Fault) → cond b (Err (unread p name)) (Ok h) ≡ Err f → f.cause ≡ Unread
unread_cause true p name h f e = let k : f ≡ unread p name = cc in ap (λ (x : Fault). x.cause) k
unread_cause false p name h f e = cc

fault_position : (past mark : Bool) (p name : ℕ) (h : ℤ) (f : Fault) → cond past (Err (beyond p name)) (cond mark (Err (unread p name)) (Ok h)) ≡ Err f → f.position ≡ p
fault_position true mark p name h f e = let k : f ≡ beyond p name = cc in ap (λ (x : Fault). x.position) k
fault_position false true p name h f e = let k : f ≡ unread p name = cc in ap (λ (x : Fault). x.position) k
fault_position false false p name h f e = cc

list_ok : (xs : List ℤ) (name p : ℕ) (h : ℤ) → list_reading xs name p ≡ Ok h → (p ≤ length xs - 1) × (marked (height_at xs p) ≡ false) × (height_at xs p ≡ h)
list_ok xs name p h e =
    let w = unless_ok (ltb (length xs - 1) p) (beyond p name) (entry_reading name p (height_at xs p)) h e in
    let u = unless_ok (marked (height_at xs p)) (unread p name) (Ok (height_at xs p)) h w.1 in
    let v = u.1 in
    (ltb-false _ _ w.0, u.0, cc)

pub list_lawful : (slope slack : ℕ) (xs : List ℤ) (name : ℕ) → is_ok (sheet_verdict slope slack xs) ≡ true → Lawful (list_meaning slope slack xs name)
list_lawful slope slack xs name ok =
    let passed = sheet_ok slope slack xs ok in
    let s = passed.line in
    record {
      last_low = s.last_least;
      last_high = s.last_most;
      slope_low = s.slope_least;
      slope_high = s.slope_most;
      slack_high = s.slack_most;
      heights = λ p h e.
          let r = list_ok xs name p h e in
          let b = ranged_at xs passed.ranged p (omega (arith, r.0)) r.1 in
          record { low = rw (sym r.2) b.low; high = rw (sym r.2) b.high };
      missing = λ p f w e. unread_cause (marked (height_at xs p)) p name (height_at xs p) f (sym (cond-false (ltb (length xs - 1) p) _ _ (le-ltb _ _ w)) ∙ e);
      past = λ p w. (beyond p name, cond-true (ltb (length xs - 1) p) _ _ (lt-ltb _ _ w), refl);
      asked = λ p f e. fault_position (ltb (length xs - 1) p) (marked (height_at xs p)) p name (height_at xs p) f e;
      near = λ p q h k e d.
          let r = list_ok xs name p h e in
          let t = list_ok xs name q k d in
          rw (sym r.2, sym t.2) (kept_near slope slack xs passed.kept p q (omega (arith, r.0)) (omega (arith, t.0)) r.1 t.1);
    }

pub table_lawful : (slope slack : ℕ) (xs : List ℤ) (name : ℕ) → is_ok (table_verdict slope slack xs name) ≡ true → Lawful (list_meaning slope slack xs name)
table_lawful slope slack xs name ok = list_lawful slope slack xs name (both_ok (sheet_verdict slope slack xs) (name_verdict name) ok).0
