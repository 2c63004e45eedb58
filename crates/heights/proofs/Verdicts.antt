-- What a verdict without refusal tells.
use Rattle.std.proofs.Common.{◌≡◌, ℕ, ◌-◌, ◌≤◌, true, false, List, length, ℤ, is_ok, Some, None, Ok, Err, Option, refl, rules}
use Rattle.std.specs.Result.{result_and}
use Rattle.std.proofs.lemmas.Bool.{both_ways}
use Rattle.terms.specs.Limits.{last_max, slope_max, slack_max}
use Rattle.heights.specs.Heights.{first_outside, first_break}
use Rattle.heights.specs.Verdicts.{Verdict, line_verdict, range_answer, law_answer, heights_verdict, sheet_verdict}

-- what the tests of a line leave
pub record Line (last slope slack : ℕ) : Type 0 where
  pub last_least : 1 ≤ last
  pub last_most : last ≤ last_max
  pub slope_least : 1 ≤ slope
  pub slope_most : slope ≤ slope_max
  pub slack_most : slack ≤ slack_max

pub line_ok : (last slope slack : ℕ) → is_ok (line_verdict last slope slack) ≡ true → Line last slope slack
line_ok last slope slack h = record { last_least = search rules; last_most = search rules; slope_least = search rules; slope_most = search rules; slack_most = search rules }

pub both_ok : (a b : Verdict) → is_ok (result_and a b) ≡ true → (is_ok a ≡ true) × (is_ok b ≡ true)
both_ok (Ok x) b h = (refl, h)
both_ok (Err e) b h = absurd (both_ways false refl h)

pub ok_both : (a b : Verdict) → is_ok a ≡ true → is_ok b ≡ true → is_ok (result_and a b) ≡ true
ok_both (Ok x) b h k = k
ok_both (Err e) b h k = absurd (both_ways false refl h)

pub ok_is : (a : Verdict) → is_ok a ≡ true → a ≡ Ok tt
ok_is (Ok x) h = refl
ok_is (Err e) h = absurd (both_ways false refl h)

pub range_ok : (o : Option ℕ) → is_ok (range_answer o) ≡ true → o ≡ None
range_ok None h = refl
range_ok (Some p) h = absurd (both_ways false refl h)

pub law_ok : (o : Option (ℕ × ℕ)) → is_ok (law_answer o) ≡ true → o ≡ None
law_ok None h = refl
law_ok (Some p) h = absurd (both_ways false refl h)

-- what the tests of a sheet leave
pub record Passed (slope slack : ℕ) (xs : List ℤ) : Type 0 where
  pub line : Line (length xs - 1) slope slack
  pub ranged : first_outside xs ≡ None
  pub kept : first_break slope slack xs ≡ None

pub sheet_ok : (slope slack : ℕ) (xs : List ℤ) → is_ok (sheet_verdict slope slack xs) ≡ true → Passed slope slack xs
sheet_ok slope slack xs h =
    let a = both_ok (line_verdict (length xs - 1) slope slack) (heights_verdict slope slack xs) h in
    let b = both_ok (range_answer (first_outside xs)) (law_answer (first_break slope slack xs)) a.1 in
    record { line = line_ok (length xs - 1) slope slack a.0; ranged = range_ok (first_outside xs) b.0; kept = law_ok (first_break slope slack xs) b.1 }
