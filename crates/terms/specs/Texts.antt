-- What people read of a refusal, a cause and a fault.
use Rattle.std.specs.Prelude.{ℕ, List, [], ◌++◌, codes, decimal}
use Rattle.terms.specs.declared.fault.Cause.{Cause}
use Rattle.terms.specs.declared.fault.Cause.TheVariants.{Beyond, Unread}
use Rattle.terms.specs.declared.fault.Fault.{Fault}
use Rattle.terms.specs.declared.refusal.Refusal.{Refusal}
use Rattle.terms.specs.declared.refusal.Refusal.TheVariants.{RecordTooShort, LastOutOfRange, SlopeOutOfRange, SlackOutOfRange, RecordLengthWrong, PadBitSet, HeightOutOfRange, LawBroken, NameZero, StepOutOfRange, PositionBeyondLast, AlreadyTouched, AlreadySettled, LimitReached, BudgetSpent, GaugeFault, ToleranceOutOfRange, LimitOutOfRange, NothingTouched, NotSettled, BufferTooShort, NotACommand}
use Rattle.terms.specs.declared.refusal.Told.{Told}
use Rattle.terms.specs.declared.refusal.Told.TheVariants.{Nothing, Position, Pair, Fault as Whole}
use Rattle.terms.specs.Faults.{cause_number}
use Rattle.terms.specs.Refusals.{number, told}

-- what each refusal says
abbrev pub sentence_of : Refusal → List ℕ
sentence_of RecordTooShort = codes "the record has fewer than 6 bytes"
sentence_of LastOutOfRange = codes "the last position is 0 or above 4,000"
sentence_of SlopeOutOfRange = codes "the slope is 0 or above 40,000"
sentence_of SlackOutOfRange = codes "the slack is above 40,000"
sentence_of RecordLengthWrong = codes "the record has not the length that its last position calls for"
sentence_of PadBitSet = codes "a bit after the last height is 1"
sentence_of (HeightOutOfRange p) = codes "a height is outside -20,000 to 20,000"
sentence_of (LawBroken later earlier) = codes "two heights differ by more than slope x distance + slack"
sentence_of NameZero = codes "the gauge has the name 0"
sentence_of StepOutOfRange = codes "the step is outside 1 to 1,000"
sentence_of PositionBeyondLast = codes "the position is beyond the last"
sentence_of AlreadyTouched = codes "the position is touched already"
sentence_of AlreadySettled = codes "the survey is settled"
sentence_of LimitReached = codes "the touches have reached the limit"
sentence_of BudgetSpent = codes "the budget of the run is spent"
sentence_of (GaugeFault f) = codes "the gauge has no height there"
sentence_of ToleranceOutOfRange = codes "the tolerance is above 40,000"
sentence_of LimitOutOfRange = codes "the touch limit is 0 or above 256"
sentence_of NothingTouched = codes "nothing is touched yet"
sentence_of NotSettled = codes "the survey is not settled"
sentence_of BufferTooShort = codes "the buffer is too short"
sentence_of NotACommand = codes "the line is no command"

-- why a reading has no height, in words
abbrev pub cause_words : Cause → List ℕ
cause_words Beyond = codes "beyond the last position"
cause_words Unread = codes "no reading"

-- a fault: the cause's number and words, the position asked, the gauge's name, the layers
abbrev pub fault_text : Fault → List ℕ
fault_text f =
    codes "fault " ++ (decimal (cause_number f.cause) ++ (codes " (" ++ (cause_words f.cause
    ++ (codes ") at position " ++ (decimal f.position ++ (codes ", gauge " ++ (decimal f.gauge ++ (codes ", layers " ++ decimal f.layers))))))))

-- the values that a refusal tells, after its sentence
abbrev pub told_text : Told → List ℕ
told_text Nothing = []
told_text (Position p) = codes ", at position " ++ decimal p
told_text (Pair later earlier) = codes ", at positions " ++ (decimal later ++ (codes " and " ++ decimal earlier))
told_text (Whole f) = codes ": " ++ fault_text f

-- a refusal: its number, its sentence, and what it tells
abbrev pub refusal_text : Refusal → List ℕ
refusal_text r = decimal (number r) ++ (codes ": " ++ (sentence_of r ++ told_text (told r)))
