-- What ask tells is the survey as it stands, so the lines printed from the answers are the transcript.
use Rattle.std.proofs.Common.{◌≡◌, ℕ, List, [], ◌∷◌, ◌++◌, drop, Some, None, Option, refl, ap, ◌∙◌}
use Rattle.caps.specs.declared.Touch.{Touch}
use Rattle.caps.specs.declared.Line.{Line}
use Rattle.surveys.specs.declared.calls.Call.{Call}
use Rattle.surveys.specs.declared.calls.Call.TheVariants.{Ask}
use Rattle.surveys.specs.declared.answers.Answer.{Answer}
use Rattle.surveys.specs.declared.answers.Answer.TheVariants.{Told}
use Rattle.surveys.specs.States.{Readings, State}
use Rattle.surveys.specs.Calls.{ask}
use Rattle.surveys.specs.Moments.{answers_to}
use Rattle.commands.specs.Lines.{line_end}
use Rattle.commands.specs.Orders.{Order, verb_of, call_of}
use Rattle.transcripts.specs.Entries.{entry_text, printed_line}
use Rattle.transcripts.specs.Told.{with_call, asked, used, touches_told, bounds_told, number_told, figures_told, lines_told}
use Rattle.transcripts.specs.Transcripts.{number_after, state_after, transcript}

abbrev state : Line → ℕ → ℕ → List Touch → State
state line tolerance limit ts = record { line = line; tolerance = tolerance; limit = limit; touches = ts }

-- a line's text from the answer to ask
abbrev text_told : List ℕ → ℕ → Answer → List ℕ
text_told verb n a = entry_text verb n (touches_told a) (bounds_told a)

stands : (verb : List ℕ) (n : ℕ) (line : Line) (tolerance limit : ℕ) (ts : List Touch) → text_told verb n (Told (ask (state line tolerance limit ts)).answer) ++ line_end ∷ [] ≡ printed_line verb n (state line tolerance limit ts)
stands verb n line tolerance limit [] = refl
stands verb n line tolerance limit (a ∷ ts) = refl

line_of : (reading : Readings) (s : State) (verb : List ℕ) (o : Option Call) (os : List Order) →
    (text_told verb (number_told o (answers_to reading s (with_call o (Ask ∷ asked os)))) (figures_told o (answers_to reading s (with_call o (Ask ∷ asked os)))) ++ line_end ∷ []
    ≡ printed_line verb (number_after reading s o) (state_after reading s o))
    × (drop (used o) (answers_to reading s (with_call o (Ask ∷ asked os))) ≡ answers_to reading (state_after reading s o) (asked os))
line_of reading s verb None os = (stands verb _ s.line s.tolerance s.limit s.touches, refl)
line_of reading s verb (Some c) os =
    let t = state_after reading s (Some c) in
    (stands verb _ t.line t.tolerance t.limit t.touches, refl)

pub lines_as_told : (reading : Readings) (s : State) (os : List Order) → lines_told os (answers_to reading s (asked os)) ≡ transcript reading s os
unfolding transcript
lines_as_told reading s [] = refl
lines_as_told reading s (o ∷ os) =
    let l = line_of reading s (verb_of o) (call_of o) os in
    ap (λ x. x ++ lines_told os (drop (used (call_of o)) (answers_to reading s (asked (o ∷ os))))) l.0
    ∙ ap (λ rs. printed_line (verb_of o) (number_after reading s (call_of o)) (state_after reading s (call_of o)) ++ lines_told os rs) l.1
    ∙ ap (λ x. printed_line (verb_of o) (number_after reading s (call_of o)) (state_after reading s (call_of o)) ++ x) (lines_as_told reading (state_after reading s (call_of o)) os)
