-- What holds over every list of calls to a survey.
use Rattle.std.specs.Prelude.{◌≡◌, ℕ, zero, suc, ◌+◌, ◌≤◌, true, ◌≢◌, ◌⊎◌, ◌↔◌, List, [], ◌∷◌, length, ℤ, pos, ◌+ℤ◌, ◌≤ℤ◌, Some, None, Ok, Err, Option}
use Rattle.std.specs.List.{ContainsAt as Has, AllByRecursion}
use Rattle.terms.specs.Meaning.{Meaning}
use Rattle.terms.specs.declared.refusal.Refusal.{Refusal}
use Rattle.caps.specs.declared.Touch.{Touch}
use Rattle.caps.specs.declared.Line.{Line}
use Rattle.caps.specs.declared.Outlook.{Outlook}
use Rattle.caps.specs.Caps.{IsFloor, NoneAbove, most_touches}
use Rattle.caps.specs.Outlooks.{outlook}
use Rattle.caps.specs.Laws.{NoWorse}
use Rattle.surveys.specs.declared.calls.Call.{Call}
use Rattle.surveys.specs.declared.calls.Call.TheVariants.{At, Run, Tol}
use Rattle.surveys.specs.declared.answers.Course.{Course}
use Rattle.surveys.specs.declared.answers.Report.{Report}
use Rattle.surveys.specs.declared.answers.Answer.{Answer}
use Rattle.surveys.specs.declared.answers.Answer.TheVariants.{Touched, Ran, Set, Told}
use Rattle.surveys.specs.Numbers.{stop_number}
use Rattle.surveys.specs.States.{State, line_of, opened}
use Rattle.surveys.specs.Calls.{ask}
use Rattle.surveys.specs.Moments.{outcome, moment}

-- A list of calls to a survey that was opened with this tolerance and limit over a gauge that means this, and the answers given.
pub record Work : Type 0 where
  pub gauge : Meaning
  pub tolerance : ℕ
  pub limit : ℕ
  pub calls : List Call
  pub answers : List Answer

-- the survey at moment k: the list's start, or the end of its k-th call
abbrev pub survey_at : Work → ℕ → State
survey_at w k = moment w.gauge.reading (opened w.gauge w.tolerance w.limit) w.calls k

abbrev pub touches_at : Work → ℕ → List Touch
touches_at w k = (survey_at w k).touches

abbrev pub tolerance_at : Work → ℕ → ℕ
tolerance_at w k = (survey_at w k).tolerance

-- floor and ceiling at moment k; there are none before the first touch
abbrev pub outlook_at : Work → ℕ → Option Outlook
outlook_at w k = outlook (line_of w.gauge) (touches_at w k)

-- something is touched at moment k
abbrev pub TouchedBy : Work → ℕ → Type 0
TouchedBy w k = touches_at w k ≢ []

-- the item at a place of a list
abbrev pub item_at : {X : Type 0} → List X → ℕ → Option X
item_at [] k = None
item_at (x ∷ xs) zero = Some x
item_at (x ∷ xs) (suc k) = item_at xs k

-- the call c is made at moment k
abbrev pub Made : Work → ℕ → Call → Type 0
Made w k c = item_at w.calls k ≡ Some c

-- the call made at moment k is answered a
abbrev pub Answered : Work → ℕ → Answer → Type 0
Answered w k a = item_at w.answers k ≡ Some a

-- the answer that a refused call gets
abbrev pub IsRefusal : Answer → Refusal → Type 0
IsRefusal a r = (a ≡ Touched (Err r)) ⊎ ((a ≡ Set (Err r)) ⊎ (a ≡ Told (Err r)))

-- the call made at moment k is not refused
abbrev pub Accepted : Work → ℕ → Type 0
Accepted w k = (a : Answer) (r : Refusal) → Answered w k a → IsRefusal a r → ⊥

-- Each call gives the answer and makes the change that its definition says, and nothing else changes the survey.
pub record EachAsDefined (w : Work) (left : State) : Type 0 where
  pub answer : (k : ℕ) (c : Call) → Made w k c → Answered w k (outcome w.gauge.reading (survey_at w k) c).answer
  pub change : (k : ℕ) (c : Call) → Made w k c → survey_at w (suc k) ≡ (outcome w.gauge.reading (survey_at w k) c).after
  pub one_answer_each : length w.answers ≡ length w.calls
  pub left_at_the_end : left ≡ survey_at w (length w.calls)

-- No higher ceiling, no lower floor, and every touch is still there with its height.
pub record NoWorseLater (line : Line) (earlier later : List Touch) (o : Outlook) : Type 0 where
  pub bounds : NoWorse line earlier later o
  pub heights_remain : AllByRecursion (Has later) earlier

-- Of any two moments after the first touch the later has no higher ceiling and no lower floor, and touched heights remain.
abbrev pub LaterNeverWorse : Work → Type 0
LaterNeverWorse w = (j k : ℕ) → j ≤ k → (o : Outlook) → outlook_at w j ≡ Some o → NoWorseLater (line_of w.gauge) (touches_at w j) (touches_at w k) o

-- At each moment after the first touch every readable height lies at or under the ceiling.
abbrev pub HeightsUnderCeiling : Work → Type 0
HeightsUnderCeiling w = (k : ℕ) (o : Outlook) → outlook_at w k ≡ Some o → (p : ℕ) (h : ℤ) → w.gauge.reading p ≡ Ok h → h ≤ℤ o.ceiling

-- The floor was touched: it is the largest touched height, at the lowest position that has it, and the gauge's height there.
pub record FloorStands (m : Meaning) (ts : List Touch) (floor : Touch) : Type 0 where
  pub is_floor : IsFloor ts floor
  pub read : m.reading floor.position ≡ Ok floor.height

-- That is so at each moment after the first touch.
abbrev pub FloorWasTouched : Work → Type 0
FloorWasTouched w = (k : ℕ) (o : Outlook) → outlook_at w k ≡ Some o → FloorStands w.gauge (touches_at w k) o.floor

-- Ask answers a report that says settled exactly when no possible sheet rises more than the tolerance above the floor.
pub record TellsSettled (line : Line) (s : State) : Type 0 where
  pub told : Report
  pub answer : (ask s).answer ≡ Ok told
  pub exactly : (told.settled ≡ true) ↔ NoneAbove line s.touches (told.floor.height +ℤ pos s.tolerance)

-- That is so at each moment after the first touch.
abbrev pub SettledExactly : Work → Type 0
SettledExactly w = (k : ℕ) → TouchedBy w k → TellsSettled (line_of w.gauge) (survey_at w k)

-- One tolerance from the first touch on: every tol accepted after it sets the value already standing. And no at is accepted.
pub record OneSearch (w : Work) : Type 0 where
  pub no_at : (k p : ℕ) → Made w k (At p) → Accepted w k → ⊥
  pub one_tolerance : (k t : ℕ) → Made w k (Tol t) → Accepted w k → TouchedBy w k → t ≡ tolerance_at w k

-- last ÷ d rounded down, plus one, at the tolerance of moment k
abbrev pub most_at : Work → ℕ → ℕ
most_at w k = most_touches (line_of w.gauge) (tolerance_at w k)

-- Such a list has at no moment more touches than that.
abbrev pub FewTouches : Work → Type 0
FewTouches w = OneSearch w → (k : ℕ) → length (touches_at w k) ≤ most_at w k

-- The run made at moment k stops with 13 or 16.
pub record RunEnds (w : Work) (k : ℕ) : Type 0 where
  pub course : Course
  pub answer : Answered w k (Ran course)
  pub stop : (stop_number course.stop ≡ 13) ⊎ (stop_number course.stop ≡ 16)

-- In such a list every run does so whose budget, and the survey's limit, are at least that number.
abbrev pub RunsEnd : Work → Type 0
RunsEnd w = OneSearch w → (k b : ℕ) → Made w k (Run b) → most_at w k ≤ b → most_at w k ≤ w.limit → RunEnds w k

-- Touches never number more than the limit.
abbrev pub WithinLimit : Work → Type 0
WithinLimit w = (k : ℕ) → length (touches_at w k) ≤ w.limit

-- A run's count is the growth in touches.
abbrev pub RunCountsTouches : Work → Type 0
RunCountsTouches w = (k b : ℕ) (course : Course) → Made w k (Run b) → Answered w k (Ran course) → length (touches_at w (suc k)) ≡ length (touches_at w k) + course.made

-- The law of a list of calls that left the survey so.
pub record Law (w : Work) (left : State) : Type 0 where
  pub each_as_defined : EachAsDefined w left
  pub later_never_worse : LaterNeverWorse w
  pub heights_under_ceiling : HeightsUnderCeiling w
  pub floor_was_touched : FloorWasTouched w
  pub settled_exactly : SettledExactly w
  pub few_touches : FewTouches w
  pub runs_end : RunsEnd w
  pub within_limit : WithinLimit w
  pub run_counts_touches : RunCountsTouches w
