-- One call more of a list, and the answers in a buffer.
use Rattle.std.proofs.Common.{◌≡◌, ℕ, suc, ◌+◌, ◌<◌, min, List, [], ◌∷◌, ◌++◌, length, get_or, take, drop, set, Some, sym, ap, ◌∙◌, inl, inr, append_assoc, append-nil, arith}
use Rattle.std.proofs.lemmas.List.{drop_more, set_at, length-take, length-take-le, get_or-take, take_all, take_at, drop_all}
use Rattle.std.proofs.lemmas.Bool.Decides.{leb_tells}
use Rattle.surveys.specs.declared.calls.Call.{Call}
use Rattle.surveys.specs.declared.answers.Answer.{Answer}
use Rattle.surveys.specs.States.{Readings, State}
use Rattle.surveys.specs.Moments.{outcome, moment, answers_to}
use Rattle.surveys.specs.Laws.{item_at}
use Rattle.surveys.proofs.Moments.{item_there, moment_next, answers_next, answers_long}

-- A call among the first n is the one at its place.
pub made_within : (n : ℕ) (calls : List Call) (i : ℕ) (d : Call) → i < min (length calls) n → item_at (take n calls) i ≡ Some (get_or calls i d)
made_within n calls i d l =
    item_there (take n calls) i d (omega (arith, length-take n calls)) ∙ ap Some (get_or-take n calls i d (omega arith))

module _ (R : Readings) (s : State) (cs : List Call) (i : ℕ) (c : Call) (made : item_at cs i ≡ Some c) (mid : State) (now-at : mid ≡ moment R s cs i) where
  up : suc i ≡ i + 1
  up = omega arith

  pub next_state : (next : State) → next ≡ (outcome R mid c).after → next ≡ moment R s cs (i + 1)
  next_state next e = e ∙ ap (λ (u : State). (outcome R u c).after) now-at ∙ sym (moment_next R s cs i c made) ∙ ap (moment R s cs) up

  pub next_answers : (r : Answer) (old got : List Answer) → r ≡ (outcome R mid c).answer → i < length cs → i < length old → got ≡ take i (answers_to R s cs) ++ drop i old →
      set got i r ≡ take (i + 1) (answers_to R s cs) ++ drop (i + 1) old
  next_answers r old got e within room was =
      let front : List Answer = take i (answers_to R s cs) in
      let n = answers_long R s cs in
      let long : length (take i (answers_to R s cs)) ≡ i = length-take-le i (answers_to R s cs) (omega arith) in
      ap (λ (u : List Answer). set u i r) (was ∙ ap (λ (u : List Answer). front ++ u) (drop_more old i r room))
      ∙ set_at front (get_or old i r) (drop (i + 1) old) r i long
      ∙ sym (append_assoc front (r ∷ []) (drop (i + 1) old))
      ∙ ap (λ (a : Answer). (front ++ a ∷ []) ++ drop (i + 1) old) (e ∙ ap (λ (u : State). (outcome R u c).answer) now-at)
      ∙ ap (λ (u : List Answer). u ++ drop (i + 1) old) (sym (answers_next R s cs i c made) ∙ ap (λ k. take k (answers_to R s cs)) up)

-- The answers stand in the front of the buffer.
pub front_is : {X : Type 0} (xs old : List X) (a : ℕ) → length xs ≡ min a (length old) → take a (xs ++ drop (length xs) old) ≡ xs
front_is {X = X} xs old a e =
    elim (leb_tells a (length old)) [
      | inl w ↦ take_at xs (drop (length xs) old) a (omega (arith, w.1))
      | inr w ↦
          ap (λ (u : List X). take a (xs ++ u)) (drop_all (length xs) old (omega (arith, w.1))) ∙ ap (take a) (append-nil xs) ∙ take_all a xs (omega (arith, w.1))
    ]
