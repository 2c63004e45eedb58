-- Where high and left touch while not settled: an untouched position whose cap is above floor + tolerance.
use Rattle.std.proofs.Common.{◌≡◌, ℕ, ◌≤◌, true, false, not, List, [], ◌∷◌, ℤ, pos, ◌+ℤ◌, ◌<ℤ◌, is_some, Some, None, Option, sym, refl, ap, ◌∙◌, subst, arith}
use lib.Signed.{le_z}
use borrow.Author.Differences.{ints}
use Rattle.std.proofs.lemmas.Bool.{both_ways}
use Rattle.terms.specs.Meaning.{Meaning}
use Rattle.caps.specs.declared.Touch.{Touch}
use Rattle.caps.specs.declared.Line.{Line}
use Rattle.caps.specs.Touches.{OnLine, Untouched}
use Rattle.caps.specs.Stretches.{Stretch, summit_of}
use Rattle.caps.specs.Caps.{cap, ceiling, floor}
use Rattle.caps.specs.Gaps.{mapped, high_summit}
use Rattle.caps.specs.Outlooks.{outlook, settled_by, is_settled, lowest_open}
use Rattle.caps.proofs.Peaks.{top_peak}
use Rattle.caps.proofs.Proved.{laws_of_gaps}
use Rattle.surveys.specs.States.{State, line_of, settled}
use Rattle.surveys.specs.Calls.{place_of, high_place, left_place}
use Rattle.surveys.proofs.Sound.{SurveyOf}

-- the touches, if there are any, leave room above floor + tolerance at x
abbrev pub Above : Line → ℕ → List Touch → ℕ → Type 0
Above line tolerance [] x = Unit {0}
Above line tolerance (a ∷ ts) x = ((floor a ts).height +ℤ pos tolerance) <ℤ cap line (a ∷ ts) x

-- p is a place for a search to touch
pub record Aim (line : Line) (tolerance : ℕ) (ts : List Touch) (p : ℕ) : Type 0 where
  pub within : p ≤ line.last
  pub free : Untouched ts p
  pub above : Above line tolerance ts p

not_at_most : (y z : ℤ) → le_z y z ≡ false → z <ℤ y
not_at_most y z e = omega (arith, ints)

module _ (line : Line) (tolerance : ℕ) where
  pub high_aim : (ts : List Touch) → OnLine line ts → is_settled line ts tolerance ≡ false → Aim line tolerance ts (high_place line ts)
  high_aim [] on e = record { within = omega arith; free = tt; above = tt }
  high_aim (a ∷ ts) on e =
      let C : ℕ → ℤ = cap line (a ∷ ts) in
      let g = laws_of_gaps.unsettled_has_a_highest_gap line a ts tolerance on e in
      let is : high_summit line (a ∷ ts) ≡ Some (summit_of (cap line (a ∷ ts)) g.0) = laws_of_gaps.high_lies_in_the_highest_gap line a ts on ∙ ap (mapped (summit_of C)) g.1 in
      let h = laws_of_gaps.high_is_the_lowest_of_the_largest line a ts (summit_of C g.0) is in
      subst (Aim line tolerance (a ∷ ts)) (sym (ap place_of is))
      (record { within = h.within; free = h.free; above = omega (arith, ints, g.2, not_at_most (ceiling line (a ∷ ts)) ((floor a ts).height +ℤ pos tolerance) e) })

  pub left_aim : (ts : List Touch) → OnLine line ts → is_settled line ts tolerance ≡ false → Aim line tolerance ts (left_place line ts tolerance)
  left_aim [] on e = record { within = omega arith; free = tt; above = tt }
  left_aim (a ∷ ts) on e = go (lowest_open line (a ∷ ts) tolerance) refl (laws_of_gaps.open_exactly_when_unsettled line a ts tolerance on ∙ ap not e)
    where
      go : (o : Option Stretch) → lowest_open line (a ∷ ts) tolerance ≡ o → is_some o ≡ true → Aim line tolerance (a ∷ ts) (place_of (mapped (summit_of (cap line (a ∷ ts))) o))
      go None is some = absurd (both_ways false refl some)
      go (Some g) is some =
          let l = laws_of_gaps.lowest_open_is_lowest line a ts tolerance g on is in
          let p = top_peak (cap line (a ∷ ts)) g l.gap.some in
          record { within = omega (arith, p.high, l.gap.within); free = l.gap.free _ p.low p.high; above = l.above }

module _ (m : Meaning) (s : State) (of : SurveyOf m s) where
  pub high_aims : settled s ≡ false → Aim (line_of m) s.tolerance s.touches (high_place s.line s.touches)
  high_aims =
      subst (λ (l : Line). settled_by (outlook l s.touches) s.tolerance ≡ false → Aim (line_of m) s.tolerance s.touches (high_place l s.touches)) (sym of.line)
      (high_aim (line_of m) s.tolerance s.touches of.sound.on_line)

  pub left_aims : settled s ≡ false → Aim (line_of m) s.tolerance s.touches (left_place s.line s.touches s.tolerance)
  left_aims =
      subst (λ (l : Line). settled_by (outlook l s.touches) s.tolerance ≡ false → Aim (line_of m) s.tolerance s.touches (left_place l s.touches s.tolerance)) (sym of.line)
      (left_aim (line_of m) s.tolerance s.touches of.sound.on_line)
