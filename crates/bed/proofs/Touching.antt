-- Heights as words, and what a touch and a search come to.
use Rattle.std.proofs.Common.{◌≡◌, ℕ, Bool, true, false, cond, ℤ, Some, None, Ok, refl, ap, ◌∙◌, arith, w16, w32, to_z, of_z}
use Rattle.std.proofs.lemmas.Int.{ints}
use Rattle.terms.specs.Meaning.{Height, Reading}
use Rattle.terms.specs.declared.refusal.Refusal.TheVariants.{AlreadySettled, LimitReached}
use Rattle.surveys.specs.States.{Readings, State, add, settled, full}
use Rattle.surveys.specs.Calls.{refused, high_place, left_place, by_reading, touch_at, high, left}
use Rattle.logs.specs.Logs.{high_aim, left_aim}
use Rattle.bed.specs.Seeking.{touch_result, sought}

-- A height fits 16 bits.
pub word : (h : ℤ) → Height h → to_z w16 (of_z w16 (to_z w32 (of_z w32 h))) ≡ h
word h b = let l = b.low in let u = b.high in omega (arith, ints)

pub answer_is : (p : ℕ) (h k : ℤ) (r : Reading) → k ≡ h → Ok h ≡ r → Ok (record { position = p; height = k }) ≡ touch_result p r
answer_is p h k r e q = ap (λ z. Ok (record { position = p; height = z })) e ∙ ap (touch_result p) q

pub state_is : (p : ℕ) (h k : ℤ) (r : Reading) (s next : State) → k ≡ h → Ok h ≡ r → next ≡ add (record { position = p; height = k }) s → next ≡ (by_reading s p r).after
state_is p h k r s next e q n = n ∙ ap (λ z. add (record { position = p; height = z }) s) e ∙ ap (λ (x : Reading). (by_reading s p x).after) q

module _ (R : Readings) (s : State) where
  sought_at : (b : Bool) (p : ℕ) → sought R s (cond b None (Some p)) ≡ cond b (refused s AlreadySettled) (cond (full s) (refused s LimitReached) (touch_at R s p))
  sought_at true p = refl
  sought_at false p = refl

  pub sought_high : sought R s (high_aim s) ≡ high R s
  sought_high = sought_at (settled s) (high_place s.line s.touches)

  pub sought_left : sought R s (left_aim s) ≡ left R s
  sought_left = sought_at (settled s) (left_place s.line s.touches s.tolerance)
