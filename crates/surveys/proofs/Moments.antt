-- The call at a place of a list, its answer and the moment after it.
use Rattle.std.proofs.Common.{◌≡◌, ℕ, zero, suc, ◌<◌, List, [], ◌∷◌, ◌++◌, length, get_or, take, Some, refl, ap, arith}
use Rattle.surveys.specs.declared.calls.Call.{Call}
use Rattle.surveys.specs.declared.answers.Answer.{Answer}
use Rattle.surveys.specs.States.{Readings, State}
use Rattle.surveys.specs.Moments.{outcome, moment, answers_to}
use Rattle.surveys.specs.Laws.{item_at}

pub item_there : {X : Type 0} (xs : List X) (k : ℕ) (d : X) → k < length xs → item_at xs k ≡ Some (get_or xs k d)
item_there [] k d l = absurd (omega arith)
item_there (x ∷ xs) zero d l = refl
item_there (x ∷ xs) (suc k) d l = item_there xs k d (omega arith)

module _ (R : Readings) where
  -- the call made at moment k leads to the next moment
  pub moment_next : (s : State) (calls : List Call) (k : ℕ) (c : Call) → item_at calls k ≡ Some c → moment R s calls (suc k) ≡ (outcome R (moment R s calls k) c).after
  moment_next s [] k c e = let z : ◌≡◌ {A = ℕ} 0 1 = cc in absurd (omega arith)
  moment_next s (b ∷ calls) zero c e = let f : b ≡ c = cc in ap (λ (d : Call). (outcome R s d).after) f
  moment_next s (b ∷ calls) (suc k) c e = moment_next (outcome R s b).after calls k c e

  -- its answer is the one at place k
  pub answer_is : (s : State) (calls : List Call) (k : ℕ) (c : Call) → item_at calls k ≡ Some c → item_at (answers_to R s calls) k ≡ Some (outcome R (moment R s calls k) c).answer
  answer_is s [] k c e = let z : ◌≡◌ {A = ℕ} 0 1 = cc in absurd (omega arith)
  answer_is s (b ∷ calls) zero c e = let f : b ≡ c = cc in ap (λ (d : Call). Some (outcome R s d).answer) f
  answer_is s (b ∷ calls) (suc k) c e = answer_is (outcome R s b).after calls k c e

  -- and it stands at the end of the answers so far
  pub answers_next : (s : State) (calls : List Call) (k : ℕ) (c : Call) → item_at calls k ≡ Some c →
      take (suc k) (answers_to R s calls) ≡ take k (answers_to R s calls) ++ ((outcome R (moment R s calls k) c).answer ∷ [])
  answers_next s [] k c e = let z : ◌≡◌ {A = ℕ} 0 1 = cc in absurd (omega arith)
  answers_next s (b ∷ calls) zero c e = let f : b ≡ c = cc in ap (λ (d : Call). (outcome R s d).answer ∷ []) f
  answers_next s (b ∷ calls) (suc k) c e = ap (λ (rest : List Answer). (outcome R s b).answer ∷ rest) (answers_next (outcome R s b).after calls k c e)

  pub answers_long : (s : State) (calls : List Call) → length (answers_to R s calls) ≡ length calls
  answers_long s [] = refl
  answers_long s (c ∷ calls) = ap suc (answers_long (outcome R s c).after calls)
