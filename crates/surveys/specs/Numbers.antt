-- The number of each stop of a run, and of each answer.
use Rattle.std.specs.Prelude.{ℕ, Ok, Err, Result}
use Rattle.terms.specs.declared.refusal.Refusal.{Refusal}
use Rattle.terms.specs.declared.refusal.Refusal.TheVariants as refusal
use Rattle.terms.specs.Refusals.{number}
use Rattle.surveys.specs.declared.answers.Stop.{Stop}
use Rattle.surveys.specs.declared.answers.Stop.TheVariants.{Settled, LimitReached, BudgetSpent, GaugeFault}
use Rattle.surveys.specs.declared.answers.Answer.{Answer}
use Rattle.surveys.specs.declared.answers.Answer.TheVariants.{Touched, Ran, Set, Told}

-- 13 settled, 14 the touches equal the limit, 15 the budget is spent, 16 the gauge answered a fault
abbrev pub stop_number : Stop → ℕ
stop_number Settled = 13
stop_number LimitReached = 14
stop_number BudgetSpent = 15
stop_number (GaugeFault f) = 16

-- the refusal that tells the same
abbrev pub refusal_of : Stop → Refusal
refusal_of Settled = refusal.AlreadySettled
refusal_of LimitReached = refusal.LimitReached
refusal_of BudgetSpent = refusal.BudgetSpent
refusal_of (GaugeFault f) = refusal.GaugeFault f

-- 0 for accepted, else the number of the refusal
abbrev pub result_number : {A : Type 0} → Result A Refusal → ℕ
result_number (Ok a) = 0
result_number (Err r) = number r

-- the number of an answer; for a run that of its stop
abbrev pub answer_number : Answer → ℕ
answer_number (Touched r) = result_number r
answer_number (Ran c) = stop_number c.stop
answer_number (Set r) = result_number r
answer_number (Told r) = result_number r
