-- What each of the six calls answers and leaves. A call tests its numbers of refusal in rising order; a refusal changes nothing.
use Rattle.std.specs.Prelude.{ℕ, zero, suc, cond, List, [], ◌∷◌, length, Some, None, Ok, Err, Option, Result, nat_lt}
use Rattle.terms.specs.Limits.{tolerance_max}
use Rattle.terms.specs.Meaning.{Reading}
use Rattle.terms.specs.declared.refusal.Refusal.{Refusal}
use Rattle.terms.specs.declared.refusal.Refusal.TheVariants.{PositionBeyondLast, AlreadyTouched, AlreadySettled, LimitReached, GaugeFault, ToleranceOutOfRange, NothingTouched}
use Rattle.caps.specs.declared.Touch.{Touch}
use Rattle.caps.specs.declared.Line.{Line}
use Rattle.caps.specs.declared.Summit.{Summit}
use Rattle.caps.specs.declared.Outlook.{Outlook}
use Rattle.caps.specs.Touches.{is_touched}
use Rattle.caps.specs.Gaps.{high_summit}
use Rattle.caps.specs.Outlooks.{settled_by, open_summit}
use Rattle.surveys.specs.declared.answers.Stop.{Stop}
use Rattle.surveys.specs.declared.answers.Stop.TheVariants as stop
use Rattle.surveys.specs.declared.answers.Course.{Course}
use Rattle.surveys.specs.declared.answers.Report.{Report}
use Rattle.surveys.specs.States.{Readings, State, add, with_tolerance, standing, settled, full}

-- an answer, and the state that the call leaves
pub record Outcome (A : Type 0) : Type 0 where
  pub answer : A
  pub after : State

abbrev pub refused : {A : Type 0} → State → Refusal → Outcome (Result A Refusal)
refused s r = record { answer = Err r; after = s }

-- the place of a summit; where there is none a 0 stands that no promise speaks of
abbrev pub place_of : Option Summit → ℕ
place_of None = 0
place_of (Some u) = u.place

-- where high touches: position 0 if nothing is touched, else the untouched position of largest cap, the lowest on a tie
abbrev pub high_place : Line → List Touch → ℕ
high_place line [] = 0
high_place line (a ∷ ts) = place_of (high_summit line (a ∷ ts))

-- where left touches: position 0 if nothing is touched, else in the lowest open gap the position of largest cap, the lowest on a tie
abbrev pub left_place : Line → List Touch → ℕ → ℕ
left_place line [] tolerance = 0
left_place line (a ∷ ts) tolerance = place_of (open_summit line (a ∷ ts) tolerance)

-- what touching p comes to, by the gauge's reading there: the touch is put in, or the fault is passed on whole (16)
abbrev pub by_reading : State → ℕ → Reading → Outcome (Result Touch Refusal)
by_reading s p (Ok h) = record { answer = Ok (record { position = p; height = h }); after = add (record { position = p; height = h }) s }
by_reading s p (Err f) = refused s (GaugeFault f)

-- a touch at p with one reading of the gauge
abbrev pub touch_at : Readings → State → ℕ → Outcome (Result Touch Refusal)
touch_at reading s p = by_reading s p (reading p)

-- a search for the place p: refused where settled (13), or where the touches equal the limit (14)
abbrev pub seek : Readings → State → ℕ → Outcome (Result Touch Refusal)
seek reading s p =
    cond (settled s) (refused s AlreadySettled)
    (cond (full s) (refused s LimitReached)
    (touch_at reading s p))

-- high: 13, 14, 16
abbrev pub high : Readings → State → Outcome (Result Touch Refusal)
high reading s = seek reading s (high_place s.line s.touches)

-- left: 13, 14, 16
abbrev pub left : Readings → State → Outcome (Result Touch Refusal)
left reading s = seek reading s (left_place s.line s.touches s.tolerance)

-- at p: 11 beyond the last position, 12 touched already, 14, 16; a settled survey takes it too
abbrev pub at : Readings → State → ℕ → Outcome (Result Touch Refusal)
at reading s p =
    cond (nat_lt s.line.last p) (refused s PositionBeyondLast)
    (cond (is_touched s.touches p) (refused s AlreadyTouched)
    (cond (full s) (refused s LimitReached)
    (touch_at reading s p)))

-- a run that stops after so many touches; its touches stay
abbrev pub stopped : ℕ → Stop → State → Outcome Course
stopped made why s = record { answer = record { made = made; stop = why }; after = s }

-- a run goes on after a height, and stops at a fault (16)
abbrev pub go_on : State → ℕ → Reading → Outcome Course → Outcome Course
go_on s made (Ok h) rest = rest
go_on s made (Err f) rest = stopped made (stop.GaugeFault f) s

-- a run that has made so many touches, with so much of its budget left: before each touch 13, 14 and 15 are tested, then high touches
abbrev pub run_on : Readings → State → ℕ → ℕ → Outcome Course
run_on reading s made zero =
    cond (settled s) (stopped made stop.Settled s)
    (cond (full s) (stopped made stop.LimitReached s)
    (stopped made stop.BudgetSpent s))
run_on reading s made (suc budget) =
    cond (settled s) (stopped made stop.Settled s)
    (cond (full s) (stopped made stop.LimitReached s)
    (go_on s made (reading (high_place s.line s.touches)) (run_on reading (high reading s).after (suc made) budget)))

-- run b repeats high and answers the number of touches it made and its stop
abbrev pub run : Readings → State → ℕ → Outcome Course
run reading s budget = run_on reading s 0 budget

-- tol t: 17 above 40,000; sets the tolerance and leaves every touch
abbrev pub tol : State → ℕ → Outcome (Result (Unit {0}) Refusal)
tol s t = cond (nat_lt tolerance_max t) (refused s ToleranceOutOfRange) (record { answer = Ok tt; after = with_tolerance t s })

-- floor with its position, ceiling, touches, and whether settled; before the first touch 19
abbrev pub report : State → Option Outlook → Result Report Refusal
report s None = Err NothingTouched
report s (Some o) = Ok (record { floor = o.floor; ceiling = o.ceiling; touches = length s.touches; settled = settled_by (Some o) s.tolerance })

-- ask changes nothing
abbrev pub ask : State → Outcome (Result Report Refusal)
ask s = record { answer = report s (standing s); after = s }
