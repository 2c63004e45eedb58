-- The calls made for an input, and the lines printed from their answers.
use Rattle.std.specs.Prelude.{ℕ, List, [], ◌∷◌, ◌++◌, drop, pos, Some, None, Ok, Err, Option, slice_index_or}
use Rattle.terms.specs.Refusals.{number}
use Rattle.terms.specs.declared.refusal.Refusal.TheVariants.{NotACommand}
use Rattle.surveys.specs.declared.calls.Call.{Call}
use Rattle.surveys.specs.declared.calls.Call.TheVariants.{Ask}
use Rattle.surveys.specs.declared.answers.Answer.{Answer}
use Rattle.surveys.specs.declared.answers.Answer.TheVariants.{Touched, Ran, Set, Told}
use Rattle.surveys.specs.Numbers.{answer_number}
use Rattle.commands.specs.Lines.{line_end}
use Rattle.commands.specs.Orders.{Order, verb_of, call_of}
use Rattle.transcripts.specs.declared.entry.Bounds.{Bounds}
use Rattle.transcripts.specs.Entries.{entry_text}

-- a line's call, where it makes one, before other calls
abbrev pub with_call : Option Call → List Call → List Call
with_call None cs = cs
with_call (Some c) cs = c ∷ cs

-- the calls that an input's lines say
abbrev pub said : List Order → List Call
said [] = []
said (o ∷ os) = with_call (call_of o) (said os)

-- the calls made for them: after each line's call an ask, whose answer the line prints
abbrev pub asked : List Order → List Call
asked [] = []
asked (o ∷ os) = with_call (call_of o) (Ask ∷ asked os)

-- how many answers a line gets
abbrev pub used : Option Call → ℕ
used None = 1
used (Some c) = 2

-- the touches and the bounds that an answer to ask tells; before the first touch it is refused
abbrev pub touches_told : Answer → ℕ
touches_told (Told (Ok r)) = r.touches
touches_told (Told (Err e)) = 0
touches_told (Touched r) = 0
touches_told (Ran c) = 0
touches_told (Set r) = 0

abbrev pub bounds_told : Answer → Option Bounds
bounds_told (Told (Ok r)) = Some (record { floor = r.floor; ceiling = r.ceiling })
bounds_told (Told (Err e)) = None
bounds_told (Touched r) = None
bounds_told (Ran c) = None
bounds_told (Set r) = None

-- stands past the last answer, where no promise speaks of it
abbrev pub none_told : Answer
none_told = Touched (Ok (record { position = 0; height = pos 0 }))

-- the result number of a line, from the answers that begin with its own
abbrev pub number_told : Option Call → List Answer → ℕ
number_told None rs = number NotACommand
number_told (Some c) rs = answer_number (slice_index_or rs 0 none_told)

-- what ask answered after the line's call
abbrev pub figures_told : Option Call → List Answer → Answer
figures_told None rs = slice_index_or rs 0 none_told
figures_told (Some c) rs = slice_index_or rs 1 none_told

abbrev pub told_text : Order → List Answer → List ℕ
told_text o rs =
    entry_text (verb_of o) (number_told (call_of o) rs) (touches_told (figures_told (call_of o) rs)) (bounds_told (figures_told (call_of o) rs))

abbrev pub lines_told : List Order → List Answer → List ℕ
lines_told [] rs = []
lines_told (o ∷ os) rs = (told_text o rs ++ line_end ∷ []) ++ lines_told os (drop (used (call_of o)) rs)
