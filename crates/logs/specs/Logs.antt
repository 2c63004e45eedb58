-- A log as the state of the definitions, and where a search touches.
use Rattle.std.specs.Prelude.{◌≡◌, ℕ, ◌+◌, ◌≤◌, false, cond, [], ◌++◌, length, take, drop, Some, None, Option}
use Rattle.caps.specs.declared.Touch.{Touch}
use Rattle.caps.specs.declared.Line.{Line}
use Rattle.caps.specs.declared.Outlook.{Outlook}
use Rattle.caps.specs.Touches.{insert, is_touched}
use Rattle.surveys.specs.States.{State, settled}
use Rattle.surveys.specs.Calls.{place_of, high_place, left_place}
use Rattle.logs.specs.declared.log.Log.{Log}
use Rattle.logs.specs.declared.log.Notes.{Notes}
use Rattle.logs.specs.declared.setting.Setting.{Setting}

-- what a log means
abbrev pub state_of : Log → State
state_of l = record { line = l.notes.line; tolerance = l.notes.tolerance; limit = l.notes.limit; touches = take l.notes.count l.notes.touches }

-- the state of a survey of that line before its first call
abbrev pub begun : Line → Setting → State
begun line s = record { line = line; tolerance = s.tolerance; limit = s.limit; touches = [] }

-- notes with the touch put in among the others, and nothing else changed
pub record PutIn (t : Touch) (before after : Notes) : Type 0 where
  pub line : after.line ≡ before.line
  pub tolerance : after.tolerance ≡ before.tolerance
  pub limit : after.limit ≡ before.limit
  pub count : after.count ≡ before.count + 1
  pub long : length after.touches ≡ length before.touches
  pub table : after.touches ≡ insert t (take before.count before.touches) ++ drop (before.count + 1) before.touches

-- the place of the summit that is seen; before the first touch position 0
abbrev pub place_seen : Option Outlook → ℕ
place_seen None = 0
place_seen (Some o) = place_of o.summit

-- where high touches; none where settled
abbrev pub high_aim : State → Option ℕ
high_aim s = cond (settled s) None (Some (high_place s.line s.touches))

-- where left touches; none where settled
abbrev pub left_aim : State → Option ℕ
left_aim s = cond (settled s) None (Some (left_place s.line s.touches s.tolerance))

-- p lies on the line and is untouched
pub record Free (s : State) (p : ℕ) : Type 0 where
  pub within : p ≤ s.line.last
  pub untouched : is_touched s.touches p ≡ false

-- so does the place of a search, where there is one
abbrev pub FreeAim : State → Option ℕ → Type 0
FreeAim s None = Unit {0}
FreeAim s (Some p) = Free s p
