-- A printed line.
use Rattle.std.specs.Prelude.{ℕ, List, [], ◌∷◌, ◌++◌, length, Some, None, decimal, Option}
use Rattle.std.specs.List.{join_with_byte}
use Rattle.std.specs.Fmt.{signed_decimal}
use Rattle.caps.specs.declared.Outlook.{Outlook}
use Rattle.surveys.specs.States.{State, standing}
use Rattle.commands.specs.Lines.{line_end, space}
use Rattle.transcripts.specs.declared.entry.Bounds.{Bounds}
use Rattle.transcripts.specs.declared.entry.Entry.{Entry}

abbrev pub dash : List ℕ
dash = 45 ∷ []

-- floor position, floor and ceiling; each is `-` before the first touch
abbrev pub bounds_words : Option Bounds → List (List ℕ)
bounds_words None = dash ∷ dash ∷ dash ∷ []
bounds_words (Some b) = decimal b.floor.position ∷ signed_decimal b.floor.height ∷ signed_decimal b.ceiling ∷ []

-- the six words of a printed line: verb, result number, touches, and those three
abbrev pub words : List ℕ → ℕ → ℕ → Option Bounds → List (List ℕ)
words verb number touches bounds = verb ∷ decimal number ∷ decimal touches ∷ bounds_words bounds

-- the words with single spaces
abbrev pub entry_text : List ℕ → ℕ → ℕ → Option Bounds → List ℕ
entry_text verb number touches bounds = join_with_byte space (words verb number touches bounds)

abbrev pub text_of : Entry → List ℕ
text_of e = entry_text e.verb.now e.number e.touches e.bounds

abbrev pub bounds_in : Option Outlook → Option Bounds
bounds_in None = None
bounds_in (Some o) = Some (record { floor = o.floor; ceiling = o.ceiling })

-- the line that is printed for a verb and its result number, with the survey as it then stands
abbrev pub printed_line : List ℕ → ℕ → State → List ℕ
printed_line verb number s = entry_text verb number (length s.touches) (bounds_in (standing s)) ++ line_end ∷ []
