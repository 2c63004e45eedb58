-- What the program prints for a record's bytes and an input's bytes.
use Rattle.std.specs.Prelude.{ℕ, cond, List, [], ◌∷◌, ◌++◌, length, Some, None, Ok, Err, codes, decimal, Option, nat_lt}
use Rattle.terms.specs.Limits.{touches_max}
use Rattle.terms.specs.Meaning.{Meaning}
use Rattle.terms.specs.Refusals.{number}
use Rattle.terms.specs.declared.refusal.Refusal.TheVariants.{NotACommand}
use Rattle.heights.specs.Verdicts.{Verdict}
use Rattle.records.specs.Laws.{record_meaning}
use Rattle.records.specs.Verdict.{record_verdict}
use Rattle.surveys.specs.declared.calls.Call.{Call}
use Rattle.surveys.specs.Numbers.{answer_number}
use Rattle.surveys.specs.States.{Readings, State, opened}
use Rattle.surveys.specs.Moments.{outcome}
use Rattle.commands.specs.Lines.{line_end}
use Rattle.commands.specs.Orders.{Order, orders, verb_of, call_of}
use Rattle.transcripts.specs.Entries.{printed_line}

-- the result number of a line: that of its call's answer; a line that is no command is 22
abbrev pub number_after : Readings → State → Option Call → ℕ
number_after reading s None = number NotACommand
number_after reading s (Some c) = answer_number (outcome reading s c).answer

-- the survey after a line; a line that is no command changes nothing
abbrev pub state_after : Readings → State → Option Call → State
state_after reading s None = s
state_after reading s (Some c) = (outcome reading s c).after

-- what is printed for the lines of an input, from that survey on
unfoldable pub transcript : Readings → State → List Order → List ℕ
transcript reading s [] = []
transcript reading s (o ∷ os) =
    printed_line (verb_of o) (number_after reading s (call_of o)) (state_after reading s (call_of o))
    ++ transcript reading (state_after reading s (call_of o)) os

-- the name of the record's gauge
abbrev pub gauge_name : ℕ
gauge_name = 1

-- the tolerance at the start
abbrev pub start_tolerance : ℕ
start_tolerance = 0

-- the most bytes of an input
abbrev pub input_max : ℕ
input_max = 4096

-- the gauge of the record
abbrev pub gauge_of : List ℕ → Meaning
gauge_of sheet = record_meaning sheet gauge_name

-- the survey of a gauge at the start
abbrev pub started : Meaning → State
started m = opened m start_tolerance touches_max

-- that of the record
abbrev pub survey_of : List ℕ → State
survey_of sheet = started (gauge_of sheet)

-- an input of more bytes prints the one line `long`
abbrev pub unless_long : List ℕ → List ℕ → List ℕ
unless_long input text = cond (nat_lt input_max (length input)) (codes "long" ++ line_end ∷ []) text

-- what is printed for an accepted record
abbrev pub printed_for : List ℕ → List ℕ → List ℕ
printed_for sheet input = unless_long input (transcript (gauge_of sheet).reading (survey_of sheet) (orders input))

-- a refused record prints only `sheet` and the number
abbrev pub by_verdict : Verdict → List ℕ → List ℕ
by_verdict (Err r) text = codes "sheet " ++ (decimal (number r) ++ line_end ∷ [])
by_verdict (Ok accepted) text = text

-- the record comes first
abbrev pub printed : List ℕ → List ℕ → List ℕ
printed sheet input = by_verdict (record_verdict sheet gauge_name) (printed_for sheet input)
