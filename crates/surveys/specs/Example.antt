-- The worked example: last 10, slope 5, slack 0, heights 0 4 8 10 9 5 6 9 7 3 0.
use Rattle.std.specs.Prelude.{◌≡◌, ℕ, true, false, cond, List, [], ◌∷◌, map, ℤ, pos, Some, None, Ok, Err, Option, nat_lt, slice_index_or}
use Rattle.terms.specs.Faults.{beyond}
use Rattle.terms.specs.Meaning.{Meaning}
use Rattle.terms.specs.declared.refusal.Refusal.TheVariants.{PositionBeyondLast, AlreadyTouched, AlreadySettled, LimitReached, ToleranceOutOfRange, NothingTouched}
use Rattle.caps.specs.declared.Outlook.{Outlook}
use Rattle.caps.specs.Figures.{line_a, sheet_a}
use Rattle.surveys.specs.declared.calls.Call.{Call}
use Rattle.surveys.specs.declared.calls.Call.TheVariants.{High, Left, At, Run, Tol, Ask}
use Rattle.surveys.specs.declared.answers.Stop.TheVariants as stop
use Rattle.surveys.specs.declared.answers.Answer.{Answer}
use Rattle.surveys.specs.declared.answers.Answer.TheVariants.{Touched, Ran, Set, Told}
use Rattle.surveys.specs.States.{State, opened, standing, settled}
use Rattle.surveys.specs.Moments.{moment, answers_to}

-- a gauge of that name over the sheet
abbrev pub gauge_a : Meaning
gauge_a = record {
  last = line_a.last;
  slope = line_a.slope;
  slack = line_a.slack;
  reading = λ p. cond (nat_lt line_a.last p) (Err (beyond p 1)) (Ok (slice_index_or sheet_a p (pos 0)));
}

-- the answer of a touch, and of a run
abbrev pub touched : ℕ → ℕ → Answer
touched p h = Touched (Ok (record { position = p; height = pos h }))

abbrev pub highs : List Call
highs = High ∷ High ∷ High ∷ High ∷ High ∷ []

-- the survey at tolerance 3 after k highs
abbrev pub after_highs : ℕ → State
after_highs k = moment gauge_a.reading (opened gauge_a 3 256) highs k

abbrev pub ceiling_of : Option Outlook → Option ℤ
ceiling_of None = None
ceiling_of (Some o) = Some o.ceiling

abbrev pub ceiling_after : ℕ → Option ℤ
ceiling_after k = ceiling_of (standing (after_highs k))

pub record WorkedExample : Type 0 where
  -- at tolerance 3 high touches 0, 10, 5, 3, 7
  pub highs_touch : answers_to gauge_a.reading (opened gauge_a 3 256) highs ≡ touched 0 0 ∷ touched 10 0 ∷ touched 5 5 ∷ touched 3 10 ∷ touched 7 9 ∷ []
  -- the ceilings are 50, 25, 15, 15, 10; before the first touch there is none
  pub ceilings : map ceiling_after (0 ∷ 1 ∷ 2 ∷ 3 ∷ 4 ∷ 5 ∷ []) ≡ None ∷ Some (pos 50) ∷ Some (pos 25) ∷ Some (pos 15) ∷ Some (pos 15) ∷ Some (pos 10) ∷ []
  -- after 0, 10, 5, 3 left touches 7
  pub left_touches : answers_to gauge_a.reading (after_highs 4) (Left ∷ []) ≡ touched 7 9 ∷ []
  -- settled with 5 touches and not with 4
  pub settled_with_five : map (λ k. settled (after_highs k)) (4 ∷ 5 ∷ []) ≡ false ∷ true ∷ []
  pub told_then : answers_to gauge_a.reading (after_highs 5) (Ask ∷ []) ≡
      Told (Ok (record { floor = record { position = 3; height = pos 10 }; ceiling = pos 10; touches = 5; settled = true })) ∷ []
  -- after one touch settled at tolerance 50, not at 49
  pub settled_at_50 : map (λ t. settled (moment gauge_a.reading (opened gauge_a t 256) highs 1)) (50 ∷ 49 ∷ []) ≡ true ∷ false ∷ []
  -- tol 3, high, run 9, high
  pub run_settles : answers_to gauge_a.reading (opened gauge_a 0 256) (Tol 3 ∷ High ∷ Run 9 ∷ High ∷ []) ≡
      Set (Ok tt) ∷ touched 0 0 ∷ Ran (record { made = 4; stop = stop.Settled }) ∷ Touched (Err AlreadySettled) ∷ []
  -- limit 2: a run that spends its budget, one that reaches the limit, and what is tested first then
  pub run_stops : answers_to gauge_a.reading (opened gauge_a 3 2) (Run 0 ∷ Run 1 ∷ Run 9 ∷ Run 0 ∷ High ∷ []) ≡
      Ran (record { made = 0; stop = stop.BudgetSpent }) ∷ Ran (record { made = 1; stop = stop.BudgetSpent }) ∷ Ran (record { made = 1; stop = stop.LimitReached }) ∷
      Ran (record { made = 0; stop = stop.LimitReached }) ∷ Touched (Err LimitReached) ∷ []
  -- the other refusals
  pub refusals : answers_to gauge_a.reading (opened gauge_a 3 256) (Ask ∷ Tol 40001 ∷ At 11 ∷ At 3 ∷ At 3 ∷ []) ≡
      Told (Err NothingTouched) ∷ Set (Err ToleranceOutOfRange) ∷ Touched (Err PositionBeyondLast) ∷ touched 3 10 ∷ Touched (Err AlreadyTouched) ∷ []
