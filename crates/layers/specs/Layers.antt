-- The layers, as functions of the meanings below them.
use Rattle.std.specs.Prelude.{ℕ, ◌+◌, ◌-◌, min, max, cond, ◌||◌, ℤ, pos, ◌+ℤ◌, ◌-ℤ◌, neg_ℤ, Ok, Err, Result, ◌==◌, nat_lt}
use Rattle.std.specs.Int.{int_max, int_min, int_rem_euclid}
use Rattle.terms.specs.declared.refusal.Refusal.TheVariants.{StepOutOfRange}
use Rattle.terms.specs.Limits.{slope_max, slack_max, step_max, lowest_height, highest_height}
use Rattle.terms.specs.declared.fault.Fault.{Fault}
use Rattle.terms.specs.Faults.{raised, beyond, layer_name}
use Rattle.terms.specs.Meaning.{Meaning, Reading}
use Rattle.heights.specs.Verdicts.{Verdict}
use Rattle.gauges.specs.Layering.{over_meaning, join_meaning}

-- flip: the negated height; slope, slack and last stay
abbrev pub flip_meaning : Meaning → Meaning
flip_meaning m = over_meaning neg_ℤ m.slack m

-- what the test of a step answers: a refusal outside 1 to 1,000
abbrev pub step_verdict : ℕ → Verdict
step_verdict q = cond (q == 0 || nat_lt step_max q) (Err StepOutOfRange) (Ok tt)

-- the height less its remainder by the step, which is from 0 to step - 1
abbrev pub rounded_down : ℕ → ℤ → ℤ
rounded_down q h = h -ℤ int_rem_euclid h (pos q)

-- the greatest multiple of the step at or below the height, but at least -20,000
abbrev pub coarse_height : ℕ → ℤ → ℤ
coarse_height q h = int_max lowest_height (rounded_down q h)

-- coarse with step q: slack grows by q - 1, at most 40,000; slope and last stay
abbrev pub coarse_meaning : ℕ → Meaning → Meaning
coarse_meaning q m = over_meaning (coarse_height q) (min (m.slack + (q - 1)) slack_max) m

-- the heights of two readings: a fault of the first ends the reading
abbrev pub both : Reading → Reading → Result (ℤ × ℤ) Fault
both (Ok a) (Ok b) = Ok (a, b)
both (Ok a) (Err e) = Err (raised e)
both (Err e) r = Err (raised e)

-- the heights of two gauges up to the smaller last position; beyond it the fault of the layer
abbrev pub both_up_to : Meaning → Meaning → ℕ → Result (ℤ × ℤ) Fault
both_up_to m n p = cond (nat_lt (min m.last n.last) p) (Err (beyond p layer_name)) (both (m.reading p) (n.reading p))

-- higher: the greater height, the greater slope, the greater slack
abbrev pub higher_meaning : Meaning → Meaning → Meaning
higher_meaning m n = join_meaning int_max (max m.slope n.slope) (max m.slack n.slack) m n

-- the sum kept within -20,000 and 20,000
unfoldable pub sum_height : ℤ → ℤ → ℤ
sum_height a b = int_max lowest_height (int_min (a +ℤ b) highest_height)

-- the sum of two slopes, at most 40,000
abbrev pub sum_slope : ℕ → ℕ → ℕ
sum_slope s t = min (s + t) slope_max

-- the sum of two slacks, at most 40,000
abbrev pub sum_slack : ℕ → ℕ → ℕ
sum_slack s t = min (s + t) slack_max

-- sum: heights, slopes and slacks added, each within its range
abbrev pub sum_meaning : Meaning → Meaning → Meaning
sum_meaning m n = join_meaning sum_height (sum_slope m.slope n.slope) (sum_slack m.slack n.slack) m n
