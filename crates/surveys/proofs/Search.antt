-- A search at one tolerance: few touches, and a run that has room for them ends. And what a run counts.
use Rattle.std.proofs.Common.{◌≡◌, ℕ, zero, suc, ◌+◌, ◌<◌, ◌≤◌, false, ltb, ◌≢◌, ◌⊎◌, List, [], ◌∷◌, map, length, ℤ, Some, Ok, Err, Option, Result, sym, refl, ap, ◌∙◌, subst, inl, inr, ⊎_elim, arith}
use Rattle.std.specs.List.{AllByRecursion}
use Rattle.std.proofs.ByRecursion.{All-weaker, All-map}
use Rattle.std.proofs.lemmas.List.{length-map}
use Rattle.std.proofs.lemmas.Bool.{cond_both, cond-false, eqb-true}
use Rattle.terms.specs.Limits.{tolerance_max}
use Rattle.terms.specs.Meaning.{Meaning, Lawful, Reading, distance}
use Rattle.terms.specs.declared.refusal.Refusal.{Refusal}
use Rattle.caps.specs.declared.Touch.{Touch}
use Rattle.caps.specs.declared.Line.{Line}
use Rattle.caps.specs.Touches.{is_touched}
use Rattle.caps.specs.Caps.{Apart, spacing, most_touches}
use Rattle.caps.proofs.Room.{distance_same}
use Rattle.caps.proofs.Inserts.{stays_apart}
use Rattle.caps.proofs.Proved.{laws_of_caps}
use Rattle.surveys.specs.declared.calls.Call.{Call}
use Rattle.surveys.specs.declared.calls.Call.TheVariants.{High, Left, At, Run, Tol, Ask}
use Rattle.surveys.specs.declared.answers.Course.{Course}
use Rattle.surveys.specs.declared.answers.Answer.{Answer}
use Rattle.surveys.specs.declared.answers.Answer.TheVariants.{Touched, Set}
use Rattle.surveys.specs.Numbers.{stop_number}
use Rattle.surveys.specs.States.{Readings, State, line_of, opened, add, settled, full}
use Rattle.surveys.specs.Calls.{Outcome, high_place, by_reading, high, at, go_on, run_on, tol}
use Rattle.surveys.specs.Moments.{outcome, moment, answers_to}
use Rattle.surveys.specs.Laws.{item_at, IsRefusal}
use Rattle.surveys.proofs.Sound.{Sound, SurveyOf, sound_none, sound_more, sound_lawful}
use Rattle.surveys.proofs.Aims.{Aim, high_aims}
use Rattle.surveys.proofs.Steps.{high_kept, left_kept, run_kept}
use Rattle.surveys.proofs.Later.{length-insert}

-- an answer, if there is one, that is no refusal
abbrev pub Taken : Option Answer → Type 0
Taken o = (a : Answer) (r : Refusal) → o ≡ Some a → IsRefusal a r → ⊥

set_taken : Taken (Some (Set (Ok tt)))
set_taken a r e i =
    ⊎_elim (λ q. let z : ◌≡◌ {A = ℕ} 0 1 = cc in omega arith)
    (⊎_elim (λ q. let z : ◌≡◌ {A = ℕ} 0 1 = cc in omega arith) (λ q. let z : ◌≡◌ {A = ℕ} 0 1 = cc in omega arith)) i

touch_taken : (t : Touch) → Taken (Some (Touched (Ok t)))
touch_taken t a r e i =
    ⊎_elim (λ q. let z : ◌≡◌ {A = ℕ} 0 1 = cc in omega arith)
    (⊎_elim (λ q. let z : ◌≡◌ {A = ℕ} 0 1 = cc in omega arith) (λ q. let z : ◌≡◌ {A = ℕ} 0 1 = cc in omega arith)) i

-- from the state s on: no at is accepted, and each accepted tol after the first touch sets the value that stands
pub record Searching (R : Readings) (s : State) (calls : List Call) (told : List Answer) : Type 0 where
  pub no_at : (k p : ℕ) → item_at calls k ≡ Some (At p) → Taken (item_at told k) → ⊥
  pub one_tolerance : (k t : ℕ) → item_at calls k ≡ Some (Tol t) → Taken (item_at told k) → (moment R s calls k).touches ≢ [] → t ≡ (moment R s calls k).tolerance

abbrev places : List Touch → List ℕ
places ts = map (λ t. t.position) ts

-- What high does where nothing refuses it.
high_adds : (R : Readings) (s : State) (h : ℤ) → settled s ≡ false → full s ≡ false → R (high_place s.line s.touches) ≡ Ok h →
    (high R s).after ≡ add (record { position = high_place s.line s.touches; height = h }) s
high_adds R s h e f r = ap (λ (o : Outcome (Result Touch Refusal)). o.after) (cond-false _ _ _ e ∙ cond-false _ _ _ f ∙ ap (by_reading s (high_place s.line s.touches)) r)

module _ (m : Meaning) (law : Lawful m) where
  abbrev L : Line
  L = line_of m

  abbrev R : Readings
  R = m.reading

  abbrev d : ℕ → ℕ
  d tolerance = spacing L tolerance

  -- the touches of a search: the gauge's, and far from one another
  record Searched (s : State) : Type 0 where
    of : SurveyOf m s
    apart : Apart (d s.tolerance) (places s.touches)

  of_searched : (s : State) → Searched s → SurveyOf m s
  of_searched s h = h.of

  far : (tolerance : ℕ) (ts : List Touch) (p : ℕ) → Sound m ts → Aim (line_of m) tolerance ts p → AllByRecursion (λ t. d tolerance ≤ distance t.position p) ts
  far tolerance [] p sound aim = tt
  far tolerance (a ∷ ts) p sound aim = laws_of_caps.high_cap_is_far L a ts tolerance law.slope_low (sound_lawful m law (a ∷ ts) sound) p aim.above

  aimed : (s : State) (p : ℕ) (h : ℤ) → Aim (line_of m) s.tolerance s.touches p → full s ≡ false → m.reading p ≡ Ok h → Searched s → Searched (add (record { position = p; height = h }) s)
  aimed s p h aim f e g = record {
    of = record { line = g.of.line; sound = sound_more m s.touches p h g.of.sound aim.within aim.free e };
    apart = stays_apart (d s.tolerance) (record { position = p; height = h }) s.touches g.apart (far s.tolerance s.touches p g.of.sound aim);
  }

  within : (s : State) → SurveyOf m s → AllByRecursion (λ p. p ≤ m.last) (places s.touches)
  within s of = All-map (λ p. p ≤ m.last) (λ t. t.position) s.touches of.sound.on_line.within

  few : (s : State) → Searched s → length s.touches ≤ most_touches L s.tolerance
  few s h = let n = laws_of_caps.few_lie_apart L s.tolerance (places s.touches) (within s h.of) h.apart in omega (arith, length-map s.touches (λ (t : Touch). t.position))

  -- While there is a place to touch, one more touch is not too many.
  room_left : (s : State) (p : ℕ) → Searched s → Aim (line_of m) s.tolerance s.touches p → length s.touches < most_touches L s.tolerance
  room_left s p h aim =
      let D : ℕ = d s.tolerance in
      let off = All-map (λ q. D ≤ distance p q) (λ t. t.position) s.touches
      (All-weaker (λ t. D ≤ distance t.position p) (λ t. D ≤ distance p t.position) (λ t l. omega (arith, distance_same p t.position)) s.touches (far s.tolerance s.touches p h.of.sound aim)) in
      let n = laws_of_caps.few_lie_apart L s.tolerance (p ∷ places s.touches) (aim.within, within s h.of) (off, h.apart) in
      omega (arith, length-map s.touches (λ (t : Touch). t.position))

  -- A tolerance set before the first touch, or to the value that stands.
  set_apart : (old new : ℕ) (ts : List Touch) → Apart (d old) (places ts) → (ts ≢ [] → new ≡ old) → Apart (d new) (places ts)
  set_apart old new [] h same = tt
  set_apart old new (a ∷ ts) h same =
      let e : new ≡ old = same (λ q. let z : ◌≡◌ {A = ℕ} 0 1 = cc in omega arith) in
      subst (λ (n : ℕ). Apart (d n) (places (a ∷ ts))) (sym e) h

  tol_searched : (s : State) (t : ℕ) → (Taken (Some (Set (tol s t).answer)) → s.touches ≢ [] → t ≡ s.tolerance) → Searched s → Searched (tol s t).after
  tol_searched s t same h =
      cond_both (ltb tolerance_max t) _ _ (λ (o : Outcome (Result (Unit {0}) Refusal)). (Taken (Some (Set o.answer)) → s.touches ≢ [] → t ≡ s.tolerance) → Searched o.after)
      (λ _ _. h)
      (λ _ f. record { of = record { line = h.of.line; sound = h.of.sound }; apart = set_apart s.tolerance t s.touches h.apart (f set_taken) })
      same

  at_searched : (s : State) (p : ℕ) → (Taken (Some (Touched (at R s p).answer)) → ⊥) → Searched s → Searched (at R s p).after
  at_searched s p turned h =
      let F : Outcome (Result Touch Refusal) → Type 0 = λ o. (Taken (Some (Touched o.answer)) → ⊥) → Searched o.after in
      cond_both (ltb s.line.last p) _ _ F (λ _ _. h)
      (λ _. cond_both (is_touched s.touches p) _ _ F (λ _ _. h)
      (λ _. cond_both (full s) _ _ F (λ _ _. h)
      (λ _. go (m.reading p))))
      turned
    where
      go : (r : Reading) → (Taken (Some (Touched (by_reading s p r).answer)) → ⊥) → Searched (by_reading s p r).after
      go (Ok z) f = absurd (f (touch_taken (record { position = p; height = z })))
      go (Err e) f = h

  call_searched : (s : State) (c : Call) (calls : List Call) → Searching R s (c ∷ calls) (answers_to R s (c ∷ calls)) → Searched s → Searched (outcome R s c).after
  call_searched s High calls one h = high_kept m Searched of_searched aimed s h
  call_searched s Left calls one h = left_kept m Searched of_searched aimed s h
  call_searched s (At p) calls one h = at_searched s p (one.no_at 0 p refl) h
  call_searched s (Run b) calls one h = run_kept m Searched of_searched aimed s 0 b h
  call_searched s (Tol t) calls one h = tol_searched s t (one.one_tolerance 0 t refl) h
  call_searched s Ask calls one h = h

  searched_from : (s : State) (calls : List Call) (k : ℕ) → Searching R s calls (answers_to R s calls) → Searched s → Searched (moment R s calls k)
  searched_from s calls zero one h = h
  searched_from s [] (suc k) one h = h
  searched_from s (c ∷ calls) (suc k) one h =
      searched_from (outcome R s c).after calls k
      (record { no_at = λ j p. one.no_at (suc j) p; one_tolerance = λ j t. one.one_tolerance (suc j) t })
      (call_searched s c calls one h)

  abbrev Ends : Course → Type 0
  Ends c = (stop_number c.stop ≡ 13) ⊎ (stop_number c.stop ≡ 16)

  -- A run ends that may make as many touches as are still to come at most, under a limit that allows them.
  run_ends : (s : State) (k b : ℕ) → Searched s → most_touches L s.tolerance ≤ b + length s.touches → most_touches L s.tolerance ≤ s.limit → Ends (run_on R s k b).answer
  run_ends s k zero h n l =
      cond_both (settled s) _ _ (λ (o : Outcome Course). Ends o.answer) (λ _. inl refl)
      (λ e. let r = room_left s (high_place s.line s.touches) h (high_aims m s h.of e) in absurd (omega arith))
  run_ends s k (suc b) h n l =
      let F : Outcome Course → Type 0 = λ o. Ends o.answer in
      let p : ℕ = high_place s.line s.touches in
      cond_both (settled s) _ _ F (λ _. inl refl)
      (λ e.
      let aim = high_aims m s h.of e in
      let r = room_left s p h aim in
      let go : (r : Reading) → m.reading p ≡ r → full s ≡ false → F (go_on s k r (run_on R (high R s).after (suc k) b)) =
      elim [
        | Ok z ↦ λ q f. subst (λ (u : State). F (run_on R u (suc k) b)) (sym (high_adds R s z e f q))
            (run_ends (add (record { position = p; height = z }) s) (suc k) b (aimed s p z aim f q h) (omega (arith, length-insert (record { position = p; height = z }) s.touches)) l)
        | Err f ↦ λ q g. inr refl
      ] in
      cond_both (full s) _ _ F (λ f. absurd (omega (arith, eqb-true (length s.touches) s.limit f))) (go (m.reading p) refl))

  module _ (tolerance limit : ℕ) (calls : List Call) where
    abbrev start : State
    start = opened m tolerance limit

    abbrev survey : ℕ → State
    survey k = moment R start calls k

    module _ (one : Searching R start calls (answers_to R start calls)) where
      searched_at : (k : ℕ) → Searched (survey k)
      searched_at k = searched_from start calls k one (record { of = record { line = refl; sound = sound_none m }; apart = tt })

      pub few_touches : (k : ℕ) → length (survey k).touches ≤ most_touches L (survey k).tolerance
      few_touches k = few (survey k) (searched_at k)

      pub run_stops : (k b : ℕ) → most_touches L (survey k).tolerance ≤ b → most_touches L (survey k).tolerance ≤ (survey k).limit →
          (stop_number (run_on R (survey k) 0 b).answer.stop ≡ 13) ⊎ (stop_number (run_on R (survey k) 0 b).answer.stop ≡ 16)
      run_stops k b n l = run_ends (survey k) 0 b (searched_at k) (omega arith) l

-- A run's count is the growth in touches.
pub run_counts : (R : Readings) (s : State) (k b : ℕ) → length (run_on R s k b).after.touches + k ≡ length s.touches + (run_on R s k b).answer.made
run_counts R s k zero =
    let F : Outcome Course → Type 0 = λ o. length o.after.touches + k ≡ length s.touches + o.answer.made in
    cond_both (settled s) _ _ F (λ _. refl) (λ _. cond_both (full s) _ _ F (λ _. refl) (λ _. refl))
run_counts R s k (suc b) =
    let F : Outcome Course → Type 0 = λ o. length o.after.touches + k ≡ length s.touches + o.answer.made in
    let p : ℕ = high_place s.line s.touches in
    let go : (r : Reading) → R p ≡ r → settled s ≡ false → full s ≡ false → F (go_on s k r (run_on R (high R s).after (suc k) b)) =
    elim [
      | Ok z ↦ λ q e f. subst (λ (u : State). F (run_on R u (suc k) b)) (sym (high_adds R s z e f q))
          (let i = run_counts R (add (record { position = p; height = z }) s) (suc k) b in omega (arith, length-insert (record { position = p; height = z }) s.touches))
      | Err f ↦ λ q e g. refl
    ] in
    cond_both (settled s) _ _ F (λ _. refl) (λ e. cond_both (full s) _ _ F (λ _. refl) (λ f. go (R p) refl e f))
