-- What one more high does to what is told and left.
use Rattle.std.proofs.Common.{◌≡◌, ℕ, zero, suc, ◌≤◌, Bool, true, false, cond, List, [], ◌++◌, length, Ok, Err, Result, sym, refl, ap, ◌∙◌, append_assoc, append-nil, arith}
use Rattle.std.proofs.lemmas.Bool.{eqb-false}
use Rattle.terms.specs.Meaning.{Reading}
use Rattle.terms.specs.declared.refusal.Refusal.{Refusal}
use Rattle.terms.specs.declared.refusal.Refusal.TheVariants.{AlreadySettled, LimitReached}
use Rattle.caps.specs.declared.Touch.{Touch}
use Rattle.surveys.specs.States.{Readings, State, settled, full}
use Rattle.surveys.specs.Calls.{Outcome, refused, by_reading, high_place, high}
use Rattle.surveys.proofs.Later.{length-insert}
use Rattle.policies.specs.Probes.{room, after_highs, made_text, told_after, touches_told}

-- high by whether the survey is settled, whether it is full, and what the gauge reads
abbrev pub by_tests : State → Bool → Bool → ℕ → Reading → Outcome (Result Touch Refusal)
by_tests s b c p r = cond b (refused s AlreadySettled) (cond c (refused s LimitReached) (by_reading s p r))

one_less : (s : State) (b c : Bool) (p : ℕ) (r : Reading) (t : Touch) → c ≡ full s → length s.touches ≤ s.limit → Ok t ≡ (by_tests s b c p r).answer → room s ≡ suc (room (by_tests s b c p r).after)
one_less s true c p r t f few e = let z : ◌≡◌ {A = ℕ} 0 1 = cc in absurd (omega arith)
one_less s false true p r t f few e = let z : ◌≡◌ {A = ℕ} 0 1 = cc in absurd (omega arith)
one_less s false false p (Err x) t f few e = let z : ◌≡◌ {A = ℕ} 0 1 = cc in absurd (omega arith)
one_less s false false p (Ok h) t f few e =
    let u : Touch = record { position = p; height = h } in
    let n = length-insert u s.touches in
    let ne = eqb-false (length s.touches) s.limit (sym f) in
    omega (arith, n, ne)

unmoved : (s : State) (b c : Bool) (p : ℕ) (r : Reading) (e : Refusal) → Err e ≡ (by_tests s b c p r).answer → (by_tests s b c p r).after ≡ s
unmoved s true c p r e h = refl
unmoved s false true p r e h = refl
unmoved s false false p (Err x) e h = refl
unmoved s false false p (Ok y) e h = let z : ◌≡◌ {A = ℕ} 0 1 = cc in absurd (omega arith)

-- What is known while high is repeated: the highs still to come leave and tell what is wanted.
pub record Probing (R : Readings) (start : State) (before : List ℕ) (s : State) (said : List ℕ) : Type 0 where
  pub state : after_highs (room s) R s ≡ after_highs (room start) R start
  pub told : said ++ touches_told (room s) R s ≡ before ++ touches_told (room start) R start

module _ (R : Readings) (start : State) (before : List ℕ) (s : State) (said : List ℕ) where
  -- An accepted high takes one place of the room,
  pub less : (t : Touch) → length s.touches ≤ s.limit → Ok t ≡ (high R s).answer → room s ≡ suc (room (high R s).after)
  less t few e = one_less s (settled s) (full s) (high_place s.line s.touches) (R (high_place s.line s.touches)) t refl few e

  -- and its line is told;
  pub accepted : (t : Touch) (next : State) (more : List ℕ) → length s.touches ≤ s.limit → Ok t ≡ (high R s).answer → next ≡ (high R s).after → more ≡ said ++ made_text next t →
      Probing R start before s said → Probing R start before next more
  accepted t next more few e n m h =
      let r : room s ≡ suc (room next) = less t few e ∙ ap (λ (x : State). suc (room x)) (sym n) in
      let state : after_highs (room s) R s ≡ after_highs (room next) R next = ap (λ k. after_highs k R s) r ∙ ap (after_highs (room next) R) (sym n) in
      let told : touches_told (room s) R s ≡ made_text next t ++ touches_told (room next) R next =
      ap (λ k. touches_told k R s) r ∙ ap (λ (x : State). told_after (high R s).answer x (touches_told (room next) R x)) (sym n)
      ∙ ap (λ a. told_after a next (touches_told (room next) R next)) (sym e) in
      record {
        state = sym state ∙ h.state;
        told = ap (λ x. x ++ touches_told (room next) R next) m ∙ append_assoc said (made_text next t) (touches_told (room next) R next) ∙ ap (λ x. said ++ x) (sym told) ∙ h.told;
      }

  stays : (n : ℕ) → (high R s).after ≡ s → after_highs n R s ≡ s
  stays zero e = refl
  stays (suc n) e = ap (after_highs n R) e ∙ stays n e

  silent : (n : ℕ) (r : Refusal) → Err r ≡ (high R s).answer → touches_told n R s ≡ []
  silent zero r e = refl
  silent (suc n) r e = ap (λ a. told_after a (high R s).after (touches_told n R (high R s).after)) (sym e)

  -- a refused one leaves the survey as it is, and so all is left and told.
  pub kept : (r : Refusal) → Err r ≡ (high R s).answer → (high R s).after ≡ s
  kept r e = unmoved s (settled s) (full s) (high_place s.line s.touches) (R (high_place s.line s.touches)) r e

  pub left : (r : Refusal) → Err r ≡ (high R s).answer → Probing R start before s said → s ≡ after_highs (room start) R start
  left r e h = sym (stays (room s) (kept r e)) ∙ h.state

  pub all_said : (r : Refusal) → Err r ≡ (high R s).answer → Probing R start before s said → said ≡ before ++ touches_told (room start) R start
  all_said r e h = sym (append-nil said) ∙ ap (λ x. said ++ x) (sym (silent (room s) r e)) ∙ h.told
