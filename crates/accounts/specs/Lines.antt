-- The lines of a report.
use Rattle.std.specs.Prelude.{ℕ, ◌+◌, ◌/◌, List, [], ◌∷◌, ◌++◌, Some, None, Ok, Err, codes, decimal, Option}
use Rattle.std.specs.Fmt.{signed_decimal}
use Rattle.terms.specs.Meaning.{Meaning, Reading}
use Rattle.terms.specs.Texts.{fault_text}
use Rattle.sheets.specs.declared.summary.Spot.{Spot}
use Rattle.sheets.specs.declared.summary.Summary.{Summary}
use Rattle.sheets.specs.Summaries.{summary_before}

-- a text with lines put after it, one after another
abbrev pub and_lines : List ℕ → List (List ℕ) → List ℕ
and_lines out [] = out
and_lines out (l ∷ ls) = and_lines (out ++ l) ls

-- last position, slope and slack
abbrev pub figures_line : ℕ → ℕ → ℕ → List ℕ
figures_line last slope slack =
    codes "last position " ++ (decimal last ++ (codes ", slope " ++ (decimal slope ++ (codes ", slack " ++ (decimal slack ++ codes "\n")))))

-- those of a gauge
abbrev pub gauge_line : Meaning → List ℕ
gauge_line m = figures_line m.last m.slope m.slack

-- the lowest or the highest height, with its position
abbrev pub spot_line : List ℕ → Option Spot → List ℕ
spot_line which None = which ++ codes " height none\n"
spot_line which (Some s) = which ++ (codes " height " ++ (signed_decimal s.height ++ (codes " at position " ++ (decimal s.position ++ codes "\n"))))

-- how many of the positions are readable
abbrev pub readable_line : ℕ → ℕ → List ℕ
readable_line readable positions = codes "readable positions " ++ (decimal readable ++ (codes " of " ++ (decimal positions ++ codes "\n")))

abbrev pub summary_lines : Meaning → Summary → List (List ℕ)
summary_lines m s =
    gauge_line m ∷ readable_line s.readable (m.last + 1) ∷ spot_line (codes "lowest") s.lowest ∷ spot_line (codes "highest") s.highest ∷ []

abbrev pub length_line : ℕ → List ℕ
length_line n = codes "record of " ++ (decimal n ++ codes " bytes\n")

abbrev pub again_line : ℕ → List ℕ
again_line n = codes "packed again: the same " ++ (decimal n ++ codes " bytes\n")

-- what is told of any gauge: its figures and the summary of its readings
abbrev pub told_lines : Meaning → List (List ℕ)
told_lines m = summary_lines m (summary_before m (m.last + 1))

-- a reading: the height, or the fault written out
abbrev pub reading_text : Reading → List ℕ
reading_text (Ok h) = codes "height " ++ signed_decimal h
reading_text (Err f) = fault_text f

abbrev pub reading_line : Meaning → ℕ → List ℕ
reading_line m p = codes "position " ++ (decimal p ++ (codes ": " ++ (reading_text (m.reading p) ++ codes "\n")))

-- what is told of a stack: its figures, and its readings at the first, the middle, the last position and one beyond
abbrev pub stack_lines : Meaning → List (List ℕ)
stack_lines m =
    gauge_line m ∷ reading_line m 0 ∷ reading_line m (m.last / 2) ∷ reading_line m m.last ∷ reading_line m (m.last + 1) ∷ []
