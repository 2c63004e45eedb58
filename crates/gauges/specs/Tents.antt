-- The tent: what it means, and what its tests refuse.
use Rattle.std.specs.Prelude.{ℕ, ◌*◌, cond, ◌||◌, ℤ, pos, ◌-ℤ◌, None, Ok, Err, int_lt, nat_lt}
use Rattle.std.specs.Int.{int_max}
use Rattle.std.specs.Result.{result_and}
use Rattle.terms.specs.declared.refusal.Refusal.TheVariants.{HeightOutOfRange, PositionBeyondLast}
use Rattle.terms.specs.Limits.{lowest_height, highest_height}
use Rattle.terms.specs.Meaning.{Meaning, distance}
use Rattle.heights.specs.Verdicts.{Verdict, line_verdict, name_verdict}
use Rattle.gauges.specs.Layering.{up_to}

-- the crown's height less slope × distance from the crown, but at least -20,000
abbrev pub tent_height : (slope crown : ℕ) (height : ℤ) → ℕ → ℤ
tent_height slope crown height p = int_max lowest_height (height -ℤ pos (slope * distance p crown))

-- a tent has slack 0, and every position up to the last is readable
abbrev pub tent_meaning : (last slope crown : ℕ) (height : ℤ) (name : ℕ) → Meaning
tent_meaning last slope crown height name = record {
  last = last;
  slope = slope;
  slack = 0;
  reading = λ p. up_to last name p (Ok (tent_height slope crown height p));
}

-- the crown's height is in its range; no position is told, and -32,768 is refused too
abbrev pub crown_height_verdict : ℤ → Verdict
crown_height_verdict height = cond (int_lt height lowest_height || int_lt highest_height height) (Err (HeightOutOfRange None)) (Ok tt)

-- the crown is not beyond the last position
abbrev pub crown_verdict : (last crown : ℕ) → Verdict
crown_verdict last crown = cond (nat_lt last crown) (Err PositionBeyondLast) (Ok tt)

-- what a tent's tests answer: the first refusal in order that holds of its figures, the slack being 0
-- `result_and a b` is the refusal of a, and where a has none it is b
abbrev pub tent_verdict : (last slope crown : ℕ) (height : ℤ) (name : ℕ) → Verdict
tent_verdict last slope crown height name =
    result_and (line_verdict last slope 0)
    (result_and (crown_height_verdict height)
    (result_and (name_verdict name) (crown_verdict last crown)))
