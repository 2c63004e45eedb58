-- Touching by high until it refuses, and what is told meanwhile.
use Rattle.std.specs.Prelude.{ℕ, zero, suc, ◌-◌, List, [], ◌++◌, length, Some, None, Ok, Err, Option, Result}
use Rattle.terms.specs.declared.refusal.Refusal.{Refusal}
use Rattle.caps.specs.declared.Touch.{Touch}
use Rattle.caps.specs.declared.Outlook.{Outlook}
use Rattle.surveys.specs.States.{Readings, State, standing}
use Rattle.surveys.specs.Calls.{high}
use Rattle.policies.specs.Lines.{touch_text}

-- the touches that the limit leaves room for
abbrev pub room : State → ℕ
room s = s.limit - length s.touches

-- the survey after n highs; a refused one changes nothing
abbrev pub after_highs : ℕ → Readings → State → State
after_highs zero reading s = s
after_highs (suc n) reading s = after_highs n reading (high reading s).after

-- the line of the touch of that number, with the ceiling that is then seen; there is one once something is touched
abbrev pub seen_text : ℕ → Touch → Option Outlook → List ℕ
seen_text number t None = []
seen_text number t (Some o) = touch_text number t o.ceiling

-- the line of the touch that was made last
abbrev pub made_text : State → Touch → List ℕ
made_text s t = seen_text (length s.touches) t (standing s)

-- the line of an accepted high that left s, and those after it; none from a refused one on
abbrev pub told_after : Result Touch Refusal → State → List ℕ → List ℕ
told_after (Ok t) s rest = made_text s t ++ rest
told_after (Err e) s rest = []

-- the lines of the touches that n highs make
abbrev pub touches_told : ℕ → Readings → State → List ℕ
touches_told zero reading s = []
touches_told (suc n) reading s = told_after (high reading s).answer (high reading s).after (touches_told n reading (high reading s).after)
