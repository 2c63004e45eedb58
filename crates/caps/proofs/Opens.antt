-- The lowest gap above a bound.
use Rattle.std.proofs.Common.{◌≡◌, ℕ, ◌<◌, ◌≤◌, true, false, not, ◌⊎◌, List, ◌∷◌, ℤ, pos, ◌+ℤ◌, ◌≤ℤ◌, is_some, Some, None, Option, sym, subst, inl, inr, ⊎_elim, arith}
use lib.Signed.{le_z}
use borrow.Author.Differences.{ints}
use Rattle.std.specs.List.{AllByRecursion}
use Rattle.std.proofs.ByRecursion.{All-weaker, All-append}
use Rattle.pick.specs.Picks.{Finds}
use Rattle.pick.proofs.Computed.{above_finds}
use Rattle.caps.specs.declared.Touch.{Touch}
use Rattle.caps.specs.declared.Line.{Line}
use Rattle.caps.specs.Touches.{OnLine}
use Rattle.caps.specs.Stretches.{Stretch, whole, top_place, top}
use Rattle.caps.specs.Caps.{cap, ceiling, floor}
use Rattle.caps.specs.Gaps.{IsGap, gaps, Ascending, LowestAbove}
use Rattle.caps.specs.Outlooks.{is_settled, lowest_open}
use Rattle.caps.proofs.Lists.{parts, order_after}
use Rattle.caps.proofs.Peaks.{top_peak, top_above}
use Rattle.caps.proofs.Gaps.{each_is_a_gap, gaps_ascend}
use Rattle.caps.proofs.Highest.{by_gaps, under}

module _ (line : Line) (a : Touch) (ts : List Touch) (on : OnLine line (a ∷ ts)) where
  abbrev F : ℕ → ℤ
  F = cap line (a ∷ ts)

  abbrev gs : List Stretch
  gs = gaps line (a ∷ ts)

  open_at : (z : ℤ) → (floor a ts).height ≤ℤ z → (o : Option Stretch) → Finds (top F) z gs o → is_some o ≡ not (le_z (ceiling line (a ∷ ts)) z)
  open_at z f None h =
      let c = under line a ts on z f (by_gaps line (a ∷ ts) on (λ g. top F g ≤ℤ z) (λ x. F x ≤ℤ z) (λ g x l m b w. omega (arith, ints)) h) in
      let e : le_z (ceiling line (a ∷ ts)) z ≡ true = grind (arith, ints) in
      sym (simp e)
  open_at z f (Some g) h =
      let at = (parts (IsGap line (a ∷ ts)) h.before g h.after (subst (AllByRecursion (IsGap line (a ∷ ts))) h.there (each_is_a_gap line (a ∷ ts) on))).1 in
      let p = top_peak F g at.some in
      let c = top_above F (whole line) (top_place F g) (omega arith) (omega (arith, p.high, at.within)) in
      let b = h.above in
      let e : le_z (ceiling line (a ∷ ts)) z ≡ false = grind (arith, ints) in
      sym (simp e)

  pub open_exactly_when_unsettled : (tolerance : ℕ) → is_some (lowest_open line (a ∷ ts) tolerance) ≡ not (is_settled line (a ∷ ts) tolerance)
  open_exactly_when_unsettled tolerance =
      let z : ℤ = (floor a ts).height +ℤ pos tolerance in
      open_at z (omega (arith, ints)) (lowest_open line (a ∷ ts) tolerance) (above_finds (top F) z gs)

  lowest_at : (z : ℤ) (o : Option Stretch) → Finds (top F) z gs o → (g : Stretch) → o ≡ Some g → LowestAbove line (a ∷ ts) z g
  lowest_at z None h g e = let n : ◌≡◌ {A = ℕ} 0 1 = cc in absurd (omega arith)
  lowest_at z (Some k) h g e = let same : k ≡ g = cc in subst (LowestAbove line (a ∷ ts) z) same (record {
    gap = at;
    above = h.above;
    first = λ x l u.
        by_gaps line (a ∷ ts) on W (λ x. x < k.from → F x ≤ℤ z) (λ j x m n b w i. ⊎_elim (λ v. omega (arith, ints)) (λ v. absurd (omega arith)) w) whole_list x (omega (arith, at.some, at.within)) u l;
  })
    where
      at : IsGap line (a ∷ ts) k
      at = (parts (IsGap line (a ∷ ts)) h.before k h.after (subst (AllByRecursion (IsGap line (a ∷ ts))) h.there (each_is_a_gap line (a ∷ ts) on))).1

      W : Stretch → Type 0
      W j = (top F j ≤ℤ z) ⊎ (k.from ≤ j.from)

      whole_list : AllByRecursion W gs
      whole_list = subst (AllByRecursion W) (sym h.there)
          (All-append W h.before (k ∷ h.after)
          (All-weaker (λ j. top F j ≤ℤ z) W (λ j l. inl l) h.before h.under) (
            inr (omega arith),
            All-weaker (λ j. k.to < j.from) W (λ j l. inr (omega (arith, at.some))) h.after
                (order_after (λ g k. g.to < k.from) h.before k h.after (subst Ascending h.there (gaps_ascend line (a ∷ ts) on))),
          ))

  pub lowest_open_is_lowest : (tolerance : ℕ) (g : Stretch) → lowest_open line (a ∷ ts) tolerance ≡ Some g → LowestAbove line (a ∷ ts) ((floor a ts).height +ℤ pos tolerance) g
  lowest_open_is_lowest tolerance g e =
      let z : ℤ = (floor a ts).height +ℤ pos tolerance in
      lowest_at z (lowest_open line (a ∷ ts) tolerance) (above_finds (top F) z gs) g e
