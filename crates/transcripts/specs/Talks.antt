-- What holds of everything that the program prints.
use Rattle.std.specs.Prelude.{◌≡◌, ℕ, ◌+◌, ◌*◌, ◌<◌, true, false, List, [], ◌∷◌, length, take, is_ok, codes, Option}
use Rattle.std.specs.Str.Iter.{LacksByte}
use Rattle.std.specs.List.{AllByRecursion}
use Rattle.terms.specs.Limits.{last_max, touches_max}
use Rattle.records.specs.Verdict.{record_verdict}
use Rattle.surveys.specs.declared.calls.Call.{Call}
use Rattle.surveys.specs.States.{State}
use Rattle.surveys.specs.Moments.{moment, answers_to}
use Rattle.surveys.specs.Laws.{Work, Law}
use Rattle.commands.specs.Lines.{line_end, space}
use Rattle.commands.specs.Orders.{Order, orders, verb_of}
use Rattle.transcripts.specs.declared.entry.Bounds.{Bounds}
use Rattle.transcripts.specs.Entries.{words}
use Rattle.transcripts.specs.Told.{said, asked}
use Rattle.transcripts.specs.Transcripts.{gauge_name, start_tolerance, input_max, gauge_of, survey_of, printed}

-- calls to the record's survey, with the answers that they get
abbrev pub work_on : List ℕ → List Call → Work
work_on sheet calls = record {
  gauge = gauge_of sheet;
  tolerance = start_tolerance;
  limit = touches_max;
  calls = calls;
  answers = answers_to (gauge_of sheet).reading (survey_of sheet) calls;
}

-- the survey that they leave
abbrev pub left_by : List ℕ → List Call → State
left_by sheet calls = moment (gauge_of sheet).reading (survey_of sheet) calls (length calls)

-- The law over every list of calls, for an input.
pub record KeepsTheLaw (sheet input : List ℕ) : Type 0 where
  -- of the calls that its lines say
  pub calls_said : Law (work_on sheet (said (orders input))) (left_by sheet (said (orders input)))
  -- of the calls that are made for it, an ask after each line
  pub calls_made : Law (work_on sheet (asked (orders input))) (left_by sheet (asked (orders input)))
  -- the asks leave the survey as the lines do
  pub asks_change_nothing : left_by sheet (asked (orders input)) ≡ left_by sheet (said (orders input))

-- That is so of every input over every accepted record.
abbrev pub EveryTalkKeepsTheLaw : Type 0
EveryTalkKeepsTheLaw = (sheet input : List ℕ) → is_ok (record_verdict sheet gauge_name) ≡ true → KeepsTheLaw sheet input

-- one byte more than the longest record has
abbrev pub sheet_read : ℕ
sheet_read = 6 + 2 * (last_max + 1) + 1

-- one byte more than the longest input has
abbrev pub input_read : ℕ
input_read = input_max + 1

-- How much of a record and an input has to be read.
pub record ReadsEnough : Type 0 where
  -- the first 8,009 bytes of a record and the first 4,097 of an input decide what is printed
  pub bounded : (sheet input : List ℕ) → printed (take sheet_read sheet) (take input_read input) ≡ printed sheet input
  -- a refused record prints the same for every input
  pub refused : (sheet input other : List ℕ) → is_ok (record_verdict sheet gauge_name) ≡ false → printed sheet input ≡ printed sheet other

-- A printed line has six words, none of them empty and none with a space or a line end in it.
pub record IsWord (w : List ℕ) : Type 0 where
  pub some : 0 < length w
  pub no_space : LacksByte space w
  pub no_end : LacksByte line_end w

pub record AreSix (ws : List (List ℕ)) : Type 0 where
  pub six : length ws ≡ 6
  pub each : AllByRecursion IsWord ws

abbrev pub SixWords : Type 0
SixWords = (o : Order) (number touches : ℕ) (bounds : Option Bounds) → AreSix (words (verb_of o) number touches bounds)

-- The record of the worked example: last 10, slope 5, slack 0, heights 0 4 8 10 9 5 6 9 7 3 0.
abbrev pub sheet_a_record : List ℕ
sheet_a_record =
    0x00 ∷ 0xa0 ∷ 0x00 ∷ 0x50 ∷ 0x00 ∷ 0x00 ∷ 0x00 ∷ 0x00 ∷ 0x00 ∷ 0x40 ∷ 0x00 ∷ 0x80 ∷ 0x00 ∷ 0xa0 ∷
    0x00 ∷ 0x90 ∷ 0x00 ∷ 0x50 ∷ 0x00 ∷ 0x60 ∷ 0x00 ∷ 0x90 ∷ 0x00 ∷ 0x70 ∷ 0x00 ∷ 0x30 ∷ 0x00 ∷ 0x00 ∷ []

pub record WorkedTalk : Type 0 where
  -- the last line has no line end
  pub example : printed sheet_a_record (codes "tol 3\nhigh\nrun 9\nhigh") ≡ codes "tol 0 0 - - -\nhigh 0 1 0 0 50\nrun 13 5 3 10 10\nhigh 13 5 3 10 10\n"
  -- a missing file counts as empty
  pub missing : (input : List ℕ) → printed [] input ≡ codes "sheet 1\n"
