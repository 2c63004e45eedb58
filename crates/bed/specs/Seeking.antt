-- A search whose place is known.
use Rattle.std.specs.Prelude.{ℕ, cond, Some, None, Ok, Err, Option, Result, ◌==◌}
use Rattle.terms.specs.Meaning.{Reading}
use Rattle.terms.specs.declared.fault.Fault.{Fault}
use Rattle.terms.specs.declared.refusal.Refusal.{Refusal}
use Rattle.terms.specs.declared.refusal.Refusal.TheVariants.{AlreadySettled, LimitReached}
use Rattle.caps.specs.declared.Touch.{Touch}
use Rattle.surveys.specs.declared.answers.Stop.{Stop}
use Rattle.surveys.specs.declared.answers.Stop.TheVariants as stop
use Rattle.surveys.specs.States.{Readings, State, full}
use Rattle.surveys.specs.Calls.{Outcome, refused, touch_at}
use Rattle.logs.specs.Logs.{high_aim, Free}

-- the touch at p, or the fault read there
abbrev pub touch_result : ℕ → Reading → Result Touch Fault
touch_result p (Ok h) = Ok (record { position = p; height = h })
touch_result p (Err f) = Err f

-- what a search comes to whose place is known; where there is none it is settled
abbrev pub sought : Readings → State → Option ℕ → Outcome (Result Touch Refusal)
sought reading s None = refused s AlreadySettled
sought reading s (Some p) = cond (full s) (refused s LimitReached) (touch_at reading s p)

-- where a touch is made that is aimed there, or the first stop that holds before it
abbrev pub place_at : State → Option ℕ → Result ℕ Stop
place_at s None = Err stop.Settled
place_at s (Some p) = cond (full s) (Err stop.LimitReached) (Ok p)

-- where a run touches next, or the first stop that holds before that touch
abbrev pub next_from : State → ℕ → ℕ → Option ℕ → Result ℕ Stop
next_from s made budget None = Err stop.Settled
next_from s made budget (Some p) = cond (full s) (Err stop.LimitReached) (cond (made == budget) (Err stop.BudgetSpent) (Ok p))

abbrev pub next_place : State → ℕ → ℕ → Result ℕ Stop
next_place s made budget = next_from s made budget (high_aim s)

-- the place of the next touch is free, and the touches are below the limit
abbrev pub FreeNext : State → Result ℕ Stop → Type 0
FreeNext s (Ok p) = Free s p
FreeNext s (Err why) = Unit {0}
