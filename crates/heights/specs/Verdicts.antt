-- What the tests of a sheet answer: nothing, or the first refusal in the order of the numbers whose condition holds.
-- `result_and a b` is the refusal of a, and where a has none it is b.
use Rattle.std.specs.Prelude.{ℕ, ◌-◌, cond, ◌||◌, List, length, ℤ, Some, None, Ok, Err, Option, Result, ◌==◌, nat_lt}
use Rattle.std.specs.Result.{result_and}
use Rattle.terms.specs.declared.refusal.Refusal.{Refusal}
use Rattle.terms.specs.declared.refusal.Refusal.TheVariants.{LastOutOfRange, SlopeOutOfRange, SlackOutOfRange, HeightOutOfRange, LawBroken, NameZero}
use Rattle.terms.specs.Limits.{last_max, slope_max, slack_max}
use Rattle.heights.specs.Heights.{first_outside, first_break}

abbrev pub Verdict : Type 0
Verdict = Result (Unit {0}) Refusal

-- the last position, the slope and the slack
abbrev pub line_verdict : ℕ → ℕ → ℕ → Verdict
line_verdict last slope slack =
    cond (last == 0 || nat_lt last_max last) (Err LastOutOfRange)
    (cond (slope == 0 || nat_lt slope_max slope) (Err SlopeOutOfRange)
    (cond (nat_lt slack_max slack) (Err SlackOutOfRange) (Ok tt)))

-- a height out of its range, at the lowest such position
abbrev pub range_answer : Option ℕ → Verdict
range_answer None = Ok tt
range_answer (Some p) = Err (HeightOutOfRange (Some p))

-- two heights that break the law: the lowest such later position, and the lowest earlier one with it
abbrev pub law_answer : Option (ℕ × ℕ) → Verdict
law_answer None = Ok tt
law_answer (Some b) = Err (LawBroken b.0 b.1)

-- the heights: each in its range, and then every two of them
abbrev pub heights_verdict : ℕ → ℕ → List ℤ → Verdict
heights_verdict slope slack xs = result_and (range_answer (first_outside xs)) (law_answer (first_break slope slack xs))

-- a sheet: a slope, a slack and a list of heights, whose last position is their count less 1; of an empty list it is 0
abbrev pub sheet_verdict : ℕ → ℕ → List ℤ → Verdict
sheet_verdict slope slack xs = result_and (line_verdict (length xs - 1) slope slack) (heights_verdict slope slack xs)

-- the name of a gauge at the bottom of a stack
abbrev pub name_verdict : ℕ → Verdict
name_verdict name = cond (name == 0) (Err NameZero) (Ok tt)

-- a list of heights under a gauge's name
abbrev pub table_verdict : ℕ → ℕ → List ℤ → ℕ → Verdict
table_verdict slope slack xs name = result_and (sheet_verdict slope slack xs) (name_verdict name)
