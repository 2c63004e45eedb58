-- How a run goes on.
use Rattle.std.proofs.Common.{◌≡◌, ℕ, zero, suc, ◌+◌, ◌-◌, ◌<◌, ◌≤◌, Bool, true, false, cond, eqb, Some, None, Ok, Err, Result, sym, refl, ap, ◌∙◌, arith}
use Rattle.std.proofs.lemmas.Bool.{cond-false, eqb-true, eqb-false}
use Rattle.terms.specs.Meaning.{Reading}
use Rattle.terms.specs.declared.fault.Fault.{Fault}
use Rattle.terms.specs.declared.refusal.Refusal.{Refusal}
use Rattle.caps.specs.declared.Touch.{Touch}
use Rattle.surveys.specs.declared.answers.Stop.{Stop}
use Rattle.surveys.specs.declared.answers.Stop.TheVariants as stop
use Rattle.surveys.specs.declared.answers.Course.{Course}
use Rattle.surveys.specs.States.{Readings, State, settled, full}
use Rattle.surveys.specs.Calls.{Outcome, high_place, by_reading, touch_at, stopped, go_on, run_on}
use Rattle.bed.specs.Seeking.{touch_result, next_from, next_place}

-- What holds where a run touches p next.
record Goes (s : State) (k n p : ℕ) : Type 0 where
  unsettled : settled s ≡ false
  place : p ≡ high_place s.line s.touches
  room : full s ≡ false
  more : k ≡ n → ⊥

module _ (R : Readings) (s : State) (k n : ℕ) where
  goes : (p : ℕ) → Ok p ≡ next_place s k n → Goes s k n p
  goes p e = by_settled (settled s) refl e
    where
      by_budget : (b : Bool) → eqb k n ≡ b → settled s ≡ false → full s ≡ false → Ok p ≡ cond b (Err stop.BudgetSpent) (Ok (high_place s.line s.touches)) → Goes s k n p
      by_budget true i u r q = let z : ◌≡◌ {A = ℕ} 0 1 = cc in absurd (omega arith)
      by_budget false i u r q = record { unsettled = u; place = cc; room = r; more = eqb-false k n i }

      by_full : (b : Bool) → full s ≡ b → settled s ≡ false → Ok p ≡ cond b (Err stop.LimitReached) (cond (eqb k n) (Err stop.BudgetSpent) (Ok (high_place s.line s.touches))) → Goes s k n p
      by_full true r u q = let z : ◌≡◌ {A = ℕ} 0 1 = cc in absurd (omega arith)
      by_full false r u q = by_budget (eqb k n) refl u r q

      by_settled : (b : Bool) → settled s ≡ b → Ok p ≡ next_from s k n (cond b None (Some (high_place s.line s.touches))) → Goes s k n p
      by_settled true u q = let z : ◌≡◌ {A = ℕ} 0 1 = cc in absurd (omega arith)
      by_settled false u q = by_full (full s) refl u q

  -- A stop before a touch is the run's.
  module _ (why : Stop) (rest : Outcome Course) (last : eqb k n ≡ true → rest ≡ stopped k stop.BudgetSpent s) where
    by_budget : (b : Bool) → eqb k n ≡ b → Err why ≡ cond b (Err stop.BudgetSpent) (Ok (high_place s.line s.touches)) → stopped k why s ≡ rest
    by_budget true i q = let w : why ≡ stop.BudgetSpent = cc in ap (λ (x : Stop). stopped k x s) w ∙ sym (last i)
    by_budget false i q = let z : ◌≡◌ {A = ℕ} 0 1 = cc in absurd (omega arith)

    by_full : (b : Bool) → Err why ≡ cond b (Err stop.LimitReached) (cond (eqb k n) (Err stop.BudgetSpent) (Ok (high_place s.line s.touches))) → stopped k why s ≡ cond b (stopped k stop.LimitReached s) rest
    by_full true q = let w : why ≡ stop.LimitReached = cc in ap (λ (x : Stop). stopped k x s) w
    by_full false q = by_budget (eqb k n) refl q

    by_settled : (b : Bool) → Err why ≡ next_from s k n (cond b None (Some (high_place s.line s.touches))) →
        stopped k why s ≡ cond b (stopped k stop.Settled s) (cond (full s) (stopped k stop.LimitReached s) rest)
    by_settled true q = let w : why ≡ stop.Settled = cc in ap (λ (x : Stop). stopped k x s) w
    by_settled false q = by_full (full s) q

  pub run_stops : (why : Stop) → Err why ≡ next_place s k n → stopped k why s ≡ run_on R s k (n - k)
  run_stops why e = by_left (n - k) refl
    where
      by_left : (b : ℕ) → n - k ≡ b → stopped k why s ≡ run_on R s k b
      by_left zero i = by_settled why (stopped k stop.BudgetSpent s) (λ _. refl) (settled s) e
      by_left (suc b) i = by_settled why _ (λ q. let z = eqb-true k n q in absurd (omega arith)) (settled s) e

  module _ (p : ℕ) (g : Goes s k n p) where
    on : (b : ℕ) → run_on R s k (suc b) ≡ go_on s k (R p) (run_on R (touch_at R s p).after (suc k) b)
    on b =
        cond-false _ _ _ g.unsettled ∙ cond-false _ _ _ g.room
        ∙ ap (λ (o : Outcome (Result Touch Refusal)). go_on s k (R (high_place s.line s.touches)) (run_on R o.after (suc k) b)) (cond-false _ _ _ g.unsettled ∙ cond-false _ _ _ g.room)
        ∙ ap (λ q. go_on s k (R q) (run_on R (touch_at R s q).after (suc k) b)) (sym g.place)

    going : (r : Reading) (t : Touch) (rest : Outcome Course) → Ok t ≡ touch_result p r → go_on s k r rest ≡ rest
    going (Ok h) t rest e = refl
    going (Err f) t rest e = let z : ◌≡◌ {A = ℕ} 0 1 = cc in absurd (omega arith)

    faulting : (r : Reading) (f : Fault) (rest : Outcome Course) → Err f ≡ touch_result p r → go_on s k r rest ≡ stopped k (stop.GaugeFault f) (by_reading s p r).after
    faulting (Ok h) f rest e = let z : ◌≡◌ {A = ℕ} 0 1 = cc in absurd (omega arith)
    faulting (Err d) f rest e = let q : d ≡ f = cc in ap (λ (x : Fault). stopped k (stop.GaugeFault x) s) q

  module _ (p : ℕ) (ok : Ok p ≡ next_place s k n) (le : k ≤ n) where
    pub below : k < n
    below = let m = (goes p ok).more in omega arith

    left_over : n - k ≡ suc (n - (k + 1))
    left_over = let l = below in omega arith

    -- After a touch the run goes on with one more made.
    pub run_goes_on : (t : Touch) (next : State) → Ok t ≡ touch_result p (R p) → next ≡ (touch_at R s p).after → run_on R s k (n - k) ≡ run_on R next (k + 1) (n - (k + 1))
    run_goes_on t next e st =
        let up : suc k ≡ k + 1 = omega arith in
        ap (run_on R s k) left_over ∙ on p (goes p ok) (n - (k + 1)) ∙ going p (goes p ok) (R p) t _ e
        ∙ ap (λ (u : State). run_on R u (suc k) (n - (k + 1))) (sym st) ∙ ap (λ j. run_on R next j (n - (k + 1))) up

    -- At a fault it stops.
    pub run_faults : (f : Fault) (next : State) → Err f ≡ touch_result p (R p) → next ≡ (touch_at R s p).after → stopped k (stop.GaugeFault f) next ≡ run_on R s k (n - k)
    run_faults f next e st =
        sym (ap (run_on R s k) left_over ∙ on p (goes p ok) (n - (k + 1)) ∙ faulting p (goes p ok) (R p) f _ e ∙ ap (stopped k (stop.GaugeFault f)) (sym st))
