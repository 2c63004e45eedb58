-- Answers of which each is the defined one are the defined answers.
use Rattle.std.proofs.Common.{◌≡◌, ℕ, suc, List, [], ◌∷◌, length, take, Some, sym, refl, ap, ◌∙◌, arith}
use Rattle.std.proofs.lemmas.List.{take_all}
use Rattle.terms.specs.Meaning.{Meaning}
use Rattle.surveys.specs.declared.calls.Call.{Call}
use Rattle.surveys.specs.declared.answers.Answer.{Answer}
use Rattle.surveys.specs.States.{Readings, State, opened}
use Rattle.surveys.specs.Moments.{outcome, moment, answers_to}
use Rattle.surveys.specs.Laws.{item_at, Law}
use Rattle.logs.specs.declared.setting.Setting.{Setting}
use Rattle.bed.specs.Working.{worked}

told_all : (reading : Readings) (s : State) (calls : List Call) (rs : List Answer) → length rs ≡ length calls →
    ((k : ℕ) (c : Call) → item_at calls k ≡ Some c → item_at rs k ≡ Some (outcome reading (moment reading s calls k) c).answer) →
    rs ≡ answers_to reading s calls
told_all reading s [] [] n h = refl
told_all reading s [] (r ∷ rs) n h = absurd (omega arith)
told_all reading s (c ∷ calls) [] n h = absurd (omega arith)
told_all reading s (c ∷ calls) (r ∷ rs) n h =
    let first : Some r ≡ Some (outcome reading s c).answer = h 0 c refl in
    let same : r ≡ (outcome reading s c).answer = cc in
    ap (λ x. x ∷ rs) same
    ∙ ap (λ xs. (outcome reading s c).answer ∷ xs) (told_all reading (outcome reading s c).after calls rs (omega arith) (λ k d e. h (suc k) d e))

-- the answers in a buffer with room for just those
pub answers_given : (m : Meaning) (setting : Setting) (calls : List Call) (old new : List Answer) (left : State) → length old ≡ length calls → length new ≡ length calls → Law (worked m setting calls old new) left →
    new ≡ answers_to m.reading (opened m setting.tolerance setting.limit) calls
answers_given m setting calls old new left a b law =
    let s = opened m setting.tolerance setting.limit in
    let all-calls : take (length old) calls ≡ calls = take_all (length old) calls (omega arith) in
    let all-answers : take (length calls) new ≡ new = take_all (length calls) new (omega arith) in
    sym all-answers
    ∙ told_all m.reading s (take (length old) calls) (take (length calls) new) law.each_as_defined.one_answer_each law.each_as_defined.answer
    ∙ ap (answers_to m.reading s) all-calls
