-- A list of calls, each made from the state that the one before left.
use Rattle.std.specs.Prelude.{ℕ, zero, suc, List, [], ◌∷◌}
use Rattle.surveys.specs.declared.calls.Call.{Call}
use Rattle.surveys.specs.declared.calls.Call.TheVariants.{High, Left, At, Run, Tol, Ask}
use Rattle.surveys.specs.declared.answers.Answer.{Answer}
use Rattle.surveys.specs.declared.answers.Answer.TheVariants.{Touched, Ran, Set, Told}
use Rattle.surveys.specs.States.{Readings, State}
use Rattle.surveys.specs.Calls.{Outcome, high, left, at, run, tol, ask}

-- an outcome whose answer is one of a list's
abbrev pub as_answer : {A : Type 0} → (A → Answer) → Outcome A → Outcome Answer
as_answer f o = record { answer = f o.answer; after = o.after }

-- what a call answers and leaves
abbrev pub outcome : Readings → State → Call → Outcome Answer
outcome reading s High = as_answer Touched (high reading s)
outcome reading s Left = as_answer Touched (left reading s)
outcome reading s (At p) = as_answer Touched (at reading s p)
outcome reading s (Run b) = as_answer Ran (run reading s b)
outcome reading s (Tol t) = as_answer Set (tol s t)
outcome reading s Ask = as_answer Told (ask s)

-- the state at moment k: the start, or the end of the k-th call
abbrev pub moment : Readings → State → List Call → ℕ → State
moment reading s calls zero = s
moment reading s [] (suc k) = s
moment reading s (c ∷ calls) (suc k) = moment reading (outcome reading s c).after calls k

-- the answers to a list of calls
abbrev pub answers_to : Readings → State → List Call → List Answer
answers_to reading s [] = []
answers_to reading s (c ∷ calls) = (outcome reading s c).answer ∷ answers_to reading (outcome reading s c).after calls
