-- What is computed from the gaps is what is defined over all positions.
use Rattle.std.proofs.Common.{◌≡◌, ℕ, cond, List, [], ◌∷◌, map, ℤ, pos, ◌+ℤ◌, Some, None, Option, sym, refl, ap, ◌∙◌, arith}
use lib.Signed.{lt_z}
use Rattle.std.proofs.lemmas.Bool.{cond_both, cond-true, cond-false}
use Rattle.pick.specs.Picks.{held, picked, first_above}
use Rattle.caps.specs.declared.Touch.{Touch}
use Rattle.caps.specs.declared.Line.{Line}
use Rattle.caps.specs.declared.Summit.{Summit}
use Rattle.caps.specs.declared.Outlook.{Outlook}
use Rattle.caps.specs.Touches.{Sound}
use Rattle.caps.specs.Stretches.{summit_of}
use Rattle.caps.specs.Caps.{cap, ceiling, floor}
use Rattle.caps.specs.Gaps.{gaps, mapped, high_summit, summit_above}
use Rattle.caps.specs.Outlooks.{floor_touch, outlook, open_summit}
use Rattle.caps.specs.Laws.{over}
use Rattle.caps.proofs.Highest.{high_lies_in_the_highest_gap, ceiling_is_floor_or_highest}
use Rattle.envelope.specs.Walks.{summits}

-- To pick what is made of items is to pick the items.
held-map : {X Y : Type 0} (f : Y → ℤ) (s : X → Y) (x : X) (o : Option X) → held f (s x) (mapped s o) ≡ s (held (λ z. f (s z)) x o)
held-map f s x None = refl
held-map f s x (Some y) = cond_both (lt_z (f (s x)) (f (s y))) y x (λ z. cond (lt_z (f (s x)) (f (s y))) (s y) (s x) ≡ s z) (λ e. cond-true _ _ _ e) (λ e. cond-false _ _ _ e)

picked-map : {X Y : Type 0} (f : Y → ℤ) (s : X → Y) (xs : List X) → picked f (map s xs) ≡ mapped s (picked (λ z. f (s z)) xs)
picked-map f s [] = refl
picked-map f s (x ∷ xs) = ap Some (ap (held f (s x)) (picked-map f s xs) ∙ held-map f s x (picked (λ z. f (s z)) xs))

above_map : {X Y : Type 0} (f : Y → ℤ) (s : X → Y) (z : ℤ) (xs : List X) → first_above f z (map s xs) ≡ mapped s (first_above (λ x. f (s x)) z xs)
above_map f s z [] = refl
above_map f s z (x ∷ xs) =
    cond_both (lt_z z (f (s x))) (Some x) (first_above (λ x. f (s x)) z xs) (λ o. first_above f z (map s (x ∷ xs)) ≡ mapped s o)
    (λ e. cond-true _ _ _ e) (λ e. cond-false _ _ _ e ∙ above_map f s z xs)

pub highest_is : (line : Line) (ts : List Touch) → Sound line ts → picked (λ s. s.cap) (summits line ts) ≡ high_summit line ts
highest_is line ts h = picked-map (λ s. s.cap) (summit_of (cap line ts)) (gaps line ts) ∙ sym (high_lies_in_the_highest_gap line ts h.on_line)

pub above_is : (line : Line) (ts : List Touch) (z : ℤ) → first_above (λ s. s.cap) z (summits line ts) ≡ summit_above line ts z
above_is line ts z = above_map (λ s. s.cap) (summit_of (cap line ts)) z (gaps line ts)

pub look_is : (line : Line) (ts : List Touch) (t : Touch) (z : ℤ) (s : Option Summit) → Sound line ts → Some t ≡ floor_touch ts → s ≡ high_summit line ts → z ≡ over t.height s →
    Some (record { floor = t; ceiling = z; summit = s }) ≡ outlook line ts
look_is line [] t z s h e q c = let n : ◌≡◌ {A = ℕ} 0 1 = cc in absurd (omega arith)
look_is line (a ∷ ts) t z s h e q c =
    let is : t ≡ floor a ts = cc in
    let top-is : z ≡ ceiling line (a ∷ ts) = c ∙ ap (λ (u : Touch). over u.height s) is ∙ ap (over (floor a ts).height) q ∙ sym (ceiling_is_floor_or_highest line a ts h.on_line) in
    ap (λ u. made u z s) is ∙ ap (λ y. made (floor a ts) y s) top-is ∙ ap (made (floor a ts) (ceiling line (a ∷ ts))) q
  where
    made : Touch → ℤ → Option Summit → Option Outlook
    made u y o = Some (record { floor = u; ceiling = y; summit = o })

pub open_is : (line : Line) (ts : List Touch) (t : Touch) (z : ℤ) (tolerance : ℕ) (r : Option Summit) → Some t ≡ floor_touch ts → z ≡ t.height +ℤ pos tolerance →
    r ≡ summit_above line ts z → r ≡ open_summit line ts tolerance
open_is line [] t z tolerance r e b q = let n : ◌≡◌ {A = ℕ} 0 1 = cc in absurd (omega arith)
open_is line (a ∷ ts) t z tolerance r e b q =
    let is : t ≡ floor a ts = cc in
    q ∙ ap (summit_above line (a ∷ ts)) (b ∙ ap (λ (u : Touch). u.height +ℤ pos tolerance) is)
