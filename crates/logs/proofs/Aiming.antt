-- The places that the code aims at are those of the definitions, and they are free.
use Rattle.std.proofs.Common.{◌≡◌, ℕ, ◌<◌, Bool, true, false, not, List, [], ◌∷◌, length, is_some, Some, None, Option, sym, refl, ap, ◌∙◌, subst, arith}
use Rattle.std.proofs.lemmas.Bool.{cond-true, cond-false, both_ways}
use Rattle.caps.specs.declared.Touch.{Touch}
use Rattle.caps.specs.declared.Line.{Line}
use Rattle.caps.specs.declared.Summit.{Summit}
use Rattle.caps.specs.Touches.{OnLine}
use Rattle.caps.specs.Stretches.{Stretch, summit_of}
use Rattle.caps.specs.Caps.{cap}
use Rattle.caps.specs.Gaps.{mapped}
use Rattle.caps.specs.Outlooks.{outlook, is_settled, lowest_open, open_summit}
use Rattle.caps.proofs.Highest.{untouched_false}
use Rattle.caps.proofs.Proved.{laws_of_gaps}
use Rattle.surveys.specs.States.{State, settled, standing}
use Rattle.surveys.specs.Calls.{place_of, high_place, left_place}
use Rattle.surveys.proofs.Aims as aims
use Rattle.logs.specs.Logs.{place_seen, high_aim, left_aim, Free}

free_of : (s : State) (p : ℕ) → aims.Aim s.line s.tolerance s.touches p → Free s p
free_of s p aim = record { within = aim.within; untouched = untouched_false s.touches p aim.free }

seen_place : (line : Line) (ts : List Touch) → place_seen (outlook line ts) ≡ high_place line ts
seen_place line [] = refl
seen_place line (a ∷ ts) = refl

has_some : (f : Stretch → Summit) (o : Option Stretch) (u : Summit) → Some u ≡ mapped f o → is_some o ≡ true
has_some f None u e = let z : ◌≡◌ {A = ℕ} 0 1 = cc in absurd (omega arith)
has_some f (Some g) u e = refl

from_not : (b : Bool) → true ≡ not b → b ≡ false
from_not true e = absurd (both_ways false refl (sym e))
from_not false e = refl

-- Where there is an open gap, the line is not settled.
open_unsettled : (line : Line) (ts : List Touch) (tolerance : ℕ) (u : Summit) → OnLine line ts → Some u ≡ open_summit line ts tolerance → (is_settled line ts tolerance ≡ false) × (u.place ≡ left_place line ts tolerance)
open_unsettled line [] tolerance u on e = let z : ◌≡◌ {A = ℕ} 0 1 = cc in absurd (omega arith)
open_unsettled line (a ∷ ts) tolerance u on e =
    let some = has_some (summit_of (cap line (a ∷ ts))) (lowest_open line (a ∷ ts) tolerance) u e in
    (from_not (is_settled line (a ∷ ts) tolerance) (sym some ∙ laws_of_gaps.open_exactly_when_unsettled line a ts tolerance on), ap place_of e)

has_none : (f : Stretch → Summit) (o : Option Stretch) → None ≡ mapped f o → is_some o ≡ false
has_none f None e = refl
has_none f (Some g) e = let z : ◌≡◌ {A = ℕ} 0 1 = cc in absurd (omega arith)

to_true : (b : Bool) → false ≡ not b → b ≡ true
to_true true e = refl
to_true false e = absurd (both_ways true (sym e) refl)

-- Where something is touched and no gap is open, the line is settled.
closed_settled : (line : Line) (ts : List Touch) (tolerance : ℕ) → OnLine line ts → 0 < length ts → None ≡ open_summit line ts tolerance → is_settled line ts tolerance ≡ true
closed_settled line [] tolerance on some e = absurd (omega arith)
closed_settled line (a ∷ ts) tolerance on some e =
    let none = has_none (summit_of (cap line (a ∷ ts))) (lowest_open line (a ∷ ts) tolerance) e in
    to_true (is_settled line (a ∷ ts) tolerance) (sym none ∙ laws_of_gaps.open_exactly_when_unsettled line a ts tolerance on)

module _ (s : State) (on : OnLine s.line s.touches) where
  pub left_closed : 0 < length s.touches → None ≡ open_summit s.line s.touches s.tolerance → None ≡ left_aim s
  left_closed some e = sym (cond-true _ _ _ (closed_settled s.line s.touches s.tolerance on some e))

  pub high_open : settled s ≡ false → (p : ℕ) → p ≡ place_seen (standing s) → (Some p ≡ high_aim s) × Free s p
  high_open e p q =
      let is : p ≡ high_place s.line s.touches = q ∙ seen_place s.line s.touches in
      (ap Some is ∙ sym (cond-false _ _ _ e), subst (Free s) (sym is) (free_of s _ (aims.high_aim s.line s.tolerance s.touches on e)))

  pub left_open : (u : Summit) → Some u ≡ open_summit s.line s.touches s.tolerance → (Some u.place ≡ left_aim s) × Free s u.place
  left_open u e =
      let r = open_unsettled s.line s.touches s.tolerance u on e in
      (ap Some r.1 ∙ sym (cond-false _ _ _ r.0), subst (Free s) (sym r.1) (free_of s _ (aims.left_aim s.line s.tolerance s.touches on r.0)))
