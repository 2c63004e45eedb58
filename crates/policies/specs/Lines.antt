-- The lines of the insurer's form.
use Rattle.std.specs.Prelude.{ℕ, ◌/◌, ◌%◌, cond, List, [], ◌∷◌, ◌++◌, length, ℤ, Some, None, codes, decimal, Option, ◌==◌}
use Rattle.std.specs.Fmt.{signed_decimal}
use Rattle.caps.specs.declared.Touch.{Touch}
use Rattle.caps.specs.declared.Summit.{Summit}
use Rattle.caps.specs.declared.Outlook.{Outlook}
use Rattle.caps.specs.Caps.{most_touches}
use Rattle.surveys.specs.States.{State, standing}
use Rattle.stretches.specs.declared.spans.Span.{Span}
use Rattle.stretches.specs.Spans.{spans}

-- a position in millimetres with one decimal, as `0.3 mm`
abbrev pub place_text : ℕ → List ℕ
place_text p = decimal (p / 10) ++ (codes "." ++ (decimal (p % 10) ++ codes " mm"))

-- a height in micrometres, as `-7 µm`; µ has the bytes 194 and 181
abbrev pub height_text : ℤ → List ℕ
height_text h = signed_decimal h ++ (32 ∷ 194 ∷ 181 ∷ 109 ∷ [])

-- a touch as it is made: its number, its position, its height, and the ceiling after it
abbrev pub touch_text : ℕ → Touch → ℤ → List ℕ
touch_text number t ceiling =
    codes "touch " ++ (decimal number ++ (codes " at " ++ (place_text t.position ++ (codes ": height " ++ (height_text t.height ++ (codes ", ceiling " ++ (height_text ceiling ++ codes "\n")))))))

-- a gap that ends with the line is the strip past the last touch
abbrev pub which_text : ℕ → ℕ → List ℕ
which_text last to = cond (to == last) (codes "past the last touch") (codes "between touches")

-- its kind and its ends, then how high the glass can stand there, and where first
abbrev pub ends_text : List ℕ → Span → List ℕ
ends_text which s = which ++ (codes ", " ++ (place_text s.from ++ (codes " to " ++ place_text s.to)))

abbrev pub summit_text : Summit → List ℕ
summit_text u = codes ": at most " ++ (height_text u.cap ++ (codes ", first at " ++ (place_text u.place ++ codes "\n")))

abbrev pub span_text : ℕ → Span → List ℕ
span_text last s = ends_text (which_text last s.to) s ++ summit_text s.summit

abbrev pub spans_text : ℕ → List Span → List ℕ
spans_text last [] = []
spans_text last (s ∷ ss) = span_text last s ++ spans_text last ss

-- the floor with its position, and the ceiling
abbrev pub bounds_text : Option Outlook → List ℕ
bounds_text None = codes "nothing is touched\n"
bounds_text (Some o) =
    codes "floor " ++ (height_text o.floor.height ++ (codes " at " ++ (place_text o.floor.position ++ (codes ", ceiling " ++ (height_text o.ceiling ++ codes "\n")))))

-- the number of touches beside the most that a search can make
abbrev pub tally_text : ℕ → ℕ → List ℕ
tally_text touches most = codes "touches " ++ (decimal touches ++ (codes ", by the rules at most " ++ (decimal most ++ codes "\n")))

-- what is known of a survey: each gap in rising order, floor and ceiling, and the touches
abbrev pub known_text : State → List ℕ
known_text s =
    spans_text s.line.last (spans s.line s.touches) ++ (bounds_text (standing s) ++ tally_text (length s.touches) (most_touches s.line s.tolerance))
