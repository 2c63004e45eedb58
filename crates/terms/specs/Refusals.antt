-- The number of each refusal, and the values that it tells.
use Rattle.std.specs.Prelude.{ℕ, Some, None}
use Rattle.terms.specs.declared.refusal.Refusal.{Refusal}
use Rattle.terms.specs.declared.refusal.Refusal.TheVariants.{RecordTooShort, LastOutOfRange, SlopeOutOfRange, SlackOutOfRange, RecordLengthWrong, PadBitSet, HeightOutOfRange, LawBroken, NameZero, StepOutOfRange, PositionBeyondLast, AlreadyTouched, AlreadySettled, LimitReached, BudgetSpent, GaugeFault, ToleranceOutOfRange, LimitOutOfRange, NothingTouched, NotSettled, BufferTooShort, NotACommand}
use Rattle.terms.specs.declared.refusal.Told.{Told}
use Rattle.terms.specs.declared.refusal.Told.TheVariants.{Nothing, Position, Pair, Fault}

abbrev pub number : Refusal → ℕ
number RecordTooShort = 1
number LastOutOfRange = 2
number SlopeOutOfRange = 3
number SlackOutOfRange = 4
number RecordLengthWrong = 5
number PadBitSet = 6
number (HeightOutOfRange p) = 7
number (LawBroken later earlier) = 8
number NameZero = 9
number StepOutOfRange = 10
number PositionBeyondLast = 11
number AlreadyTouched = 12
number AlreadySettled = 13
number LimitReached = 14
number BudgetSpent = 15
number (GaugeFault f) = 16
number ToleranceOutOfRange = 17
number LimitOutOfRange = 18
number NothingTouched = 19
number NotSettled = 20
number BufferTooShort = 21
number NotACommand = 22

abbrev pub told : Refusal → Told
told RecordTooShort = Nothing
told LastOutOfRange = Nothing
told SlopeOutOfRange = Nothing
told SlackOutOfRange = Nothing
told RecordLengthWrong = Nothing
told PadBitSet = Nothing
told (HeightOutOfRange None) = Nothing
told (HeightOutOfRange (Some p)) = Position p
told (LawBroken later earlier) = Pair later earlier
told NameZero = Nothing
told StepOutOfRange = Nothing
told PositionBeyondLast = Nothing
told AlreadyTouched = Nothing
told AlreadySettled = Nothing
told LimitReached = Nothing
told BudgetSpent = Nothing
told (GaugeFault f) = Fault f
told ToleranceOutOfRange = Nothing
told LimitOutOfRange = Nothing
told NothingTouched = Nothing
told NotSettled = Nothing
told BufferTooShort = Nothing
told NotACommand = Nothing
