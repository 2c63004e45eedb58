-- What a list of heights means as a gauge.
use Rattle.std.specs.Prelude.{ℕ, ◌-◌, cond, List, length, ℤ, Ok, Err, nat_lt}
use Rattle.heights.specs.Heights.{height_at, marked}
use Rattle.terms.specs.Faults.{beyond, unread}
use Rattle.terms.specs.Meaning.{Meaning, Reading}

-- the height that stands at p, or a fault where it is the mark
abbrev pub entry_reading : ℕ → ℕ → ℤ → Reading
entry_reading name p h = cond (marked h) (Err (unread p name)) (Ok h)

-- what the gauge of that name answers at p: beyond the last position a fault, up to it what stands there
abbrev pub list_reading : List ℤ → ℕ → ℕ → Reading
list_reading xs name p = cond (nat_lt (length xs - 1) p) (Err (beyond p name)) (entry_reading name p (height_at xs p))

-- the last position of a list is its count less 1
abbrev pub list_meaning : ℕ → ℕ → List ℤ → ℕ → Meaning
list_meaning slope slack xs name = record { last = length xs - 1; slope = slope; slack = slack; reading = list_reading xs name }
