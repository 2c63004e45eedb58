-- What one call keeps, and what a list of calls keeps.
use Rattle.std.proofs.Common.{◌≡◌, ℕ, zero, suc, ◌≤◌, Bool, true, false, cond, ltb, List, [], ◌∷◌, ℤ, Ok, Err, Result, refl, ap, arith}
use Rattle.std.proofs.lemmas.Bool.{cond_both, ltb-false}
use Rattle.terms.specs.Limits.{tolerance_max}
use Rattle.terms.specs.Meaning.{Meaning, Reading}
use Rattle.terms.specs.declared.refusal.Refusal.{Refusal}
use Rattle.caps.specs.declared.Line.{Line}
use Rattle.caps.specs.Touches.{Untouched, is_touched}
use Rattle.caps.proofs.Highest.{false_untouched}
use Rattle.surveys.specs.declared.answers.Course.{Course}
use Rattle.surveys.specs.declared.calls.Call.{Call}
use Rattle.surveys.specs.declared.calls.Call.TheVariants.{High, Left, At, Run, Tol, Ask}
use Rattle.surveys.specs.States.{Readings, State, line_of, add, with_tolerance, settled, full}
use Rattle.surveys.specs.Calls.{Outcome, high_place, left_place, by_reading, seek, high, left, at, go_on, run_on}
use Rattle.surveys.specs.Moments.{outcome, moment}
use Rattle.surveys.proofs.Sound.{SurveyOf}
use Rattle.surveys.proofs.Aims.{Aim, high_aims, left_aims}

-- An outcome decided by a test leaves what both sides leave.
pub either : {A : Type 0} (P : State → Type 0) (b : Bool) (x y : Outcome A) → (b ≡ true → P x.after) → (b ≡ false → P y.after) → P (cond b x y).after
either P b x y = cond_both b x y (λ o. P o.after)

module _ (m : Meaning) (P : State → Type 0) (of : (s : State) → P s → SurveyOf m s) where
  abbrev R : Readings
  R = m.reading

  read_kept : (s : State) (p : ℕ) → ((h : ℤ) → m.reading p ≡ Ok h → P (add (record { position = p; height = h }) s)) → P s → (r : Reading) → m.reading p ≡ r → P (by_reading s p r).after
  read_kept s p more h (Ok z) e = more z e
  read_kept s p more h (Err f) e = h

  -- What one more touch at an aim keeps, high, left and run keep.
  module _ (more : (s : State) (p : ℕ) (h : ℤ) → Aim (line_of m) s.tolerance s.touches p → full s ≡ false → m.reading p ≡ Ok h → P s → P (add (record { position = p; height = h }) s)) where
    seek_kept : (s : State) (p : ℕ) → (settled s ≡ false → Aim (line_of m) s.tolerance s.touches p) → P s → P (seek R s p).after
    seek_kept s p aim h =
        either P (settled s) _ _ (λ _. h) (λ e. either P (full s) _ _ (λ _. h) (λ f. read_kept s p (λ z q. more s p z (aim e) f q h) h (m.reading p) refl))

    pub high_kept : (s : State) → P s → P (high R s).after
    high_kept s h = seek_kept s (high_place s.line s.touches) (high_aims m s (of s h)) h

    pub left_kept : (s : State) → P s → P (left R s).after
    left_kept s h = seek_kept s (left_place s.line s.touches s.tolerance) (left_aims m s (of s h)) h

    on_kept : (s : State) (k : ℕ) (r : Reading) (rest : Outcome Course) → P s → P rest.after → P (go_on s k r rest).after
    on_kept s k (Ok z) rest h g = g
    on_kept s k (Err f) rest h g = h

    pub run_kept : (s : State) (k b : ℕ) → P s → P (run_on R s k b).after
    run_kept s k zero h = either P (settled s) _ _ (λ _. h) (λ _. either P (full s) _ _ (λ _. h) (λ _. h))
    run_kept s k (suc b) h =
        either P (settled s) _ _ (λ _. h) (λ _. either P (full s) _ _ (λ _. h) (λ _.
        on_kept s k (m.reading (high_place s.line s.touches)) (run_on R (high R s).after (suc k) b) h (run_kept (high R s).after (suc k) b (high_kept s h))))

  -- What one more touch anywhere untouched and another tolerance keep, every call keeps.
  module _ (more : (s : State) (p : ℕ) (h : ℤ) → p ≤ m.last → Untouched s.touches p → full s ≡ false → m.reading p ≡ Ok h → P s → P (add (record { position = p; height = h }) s))
      (reset : (s : State) (t : ℕ) → P s → P (with_tolerance t s)) where
    aimed : (s : State) (p : ℕ) (h : ℤ) → Aim (line_of m) s.tolerance s.touches p → full s ≡ false → m.reading p ≡ Ok h → P s → P (add (record { position = p; height = h }) s)
    aimed s p h aim f e g = more s p h aim.within aim.free f e g

    at_kept : (s : State) (p : ℕ) → P s → P (at R s p).after
    at_kept s p h =
        either P (ltb s.line.last p) _ _ (λ _. h) (λ near.
        either P (is_touched s.touches p) _ _ (λ _. h) (λ free.
        either P (full s) _ _ (λ _. h) (λ f.
        let l : p ≤ m.last = omega (arith, ltb-false s.line.last p near, ap (λ (l : Line). l.last) (of s h).line) in
        read_kept s p (λ z e. more s p z l (false_untouched s.touches p free) f e h) h (m.reading p) refl)))

    call_kept : (s : State) (c : Call) → P s → P (outcome R s c).after
    call_kept s High h = high_kept aimed s h
    call_kept s Left h = left_kept aimed s h
    call_kept s (At p) h = at_kept s p h
    call_kept s (Run b) h = run_kept aimed s 0 b h
    call_kept s (Tol t) h = either {A = Result (Unit {0}) Refusal} P (ltb tolerance_max t) _ _ (λ _. h) (λ _. reset s t h)
    call_kept s Ask h = h

    -- It holds at each later moment.
    pub from_start : (s : State) (calls : List Call) (k : ℕ) → P s → P (moment R s calls k)
    from_start s calls zero h = h
    from_start s [] (suc k) h = h
    from_start s (c ∷ calls) (suc k) h = from_start (outcome R s c).after calls k (call_kept s c h)

    pub from_earlier : (s : State) (calls : List Call) (j k : ℕ) → j ≤ k → P (moment R s calls j) → P (moment R s calls k)
    from_earlier s calls zero k le h = from_start s calls k h
    from_earlier s [] (suc j) zero le h = absurd (omega arith)
    from_earlier s [] (suc j) (suc k) le h = h
    from_earlier s (c ∷ calls) (suc j) zero le h = absurd (omega arith)
    from_earlier s (c ∷ calls) (suc j) (suc k) le h = from_earlier (outcome R s c).after calls j k (omega arith) h
