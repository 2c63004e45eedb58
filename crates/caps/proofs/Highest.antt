-- The first gap of highest largest cap has the untouched position of largest cap.
use Rattle.std.proofs.Common.{◌≡◌, ℕ, ◌<◌, ◌≤◌, Bool, true, false, not, eqb, ◌≢◌, ◌⊎◌, List, [], ◌∷◌, ℤ, pos, ◌+ℤ◌, ◌≤ℤ◌, ◌<ℤ◌, Some, None, Option, sym, refl, ap, ◌∙◌, subst, inl, inr, ⊎_elim, arith}
use borrow.Author.Differences.{ints}
use Rattle.std.specs.Int.{int_max}
use Rattle.std.specs.List.{AllByRecursion}
use Rattle.std.proofs.ByRecursion.{All-weaker, All-append, all_kept_by, kept_by_passes}
use Rattle.std.proofs.lemmas.Int.{clamps}
use Rattle.std.proofs.lemmas.Bool.{cond-true, cond_both, cond-false, eq-eqb, ne_eqb, eqb-false, cases_order, both_ways, not-true, not_from_false}
use Rattle.pick.specs.Picks.{picked, Leads, Picks}
use Rattle.pick.proofs.Computed.{picked_picks}
use Rattle.caps.specs.declared.Touch.{Touch}
use Rattle.caps.specs.declared.Line.{Line}
use Rattle.caps.specs.declared.Summit.{Summit}
use Rattle.caps.specs.Touches.{Rising, OnLine, is_touched, Untouched}
use Rattle.caps.specs.Stretches.{Stretch, whole, positions, top_place, top, marked, summit_of, Peak}
use Rattle.caps.specs.Caps.{least, height_or, reach, cap, ceiling, floor}
use Rattle.caps.specs.Gaps.{untouched, IsGap, gaps, Ascending, mapped, high_summit, highest_gap, HighestUntouched}
use Rattle.caps.specs.Outlooks.{is_settled}
use Rattle.caps.specs.Laws.{over}
use Rattle.caps.proofs.Lists.{all_zip, order_after, kept_in_order, kept_all, leads_tops, leads_has}
use Rattle.caps.proofs.Extremes.{first_has, below_first}
use Rattle.caps.proofs.Peaks.{positions_all, all_positions, positions_climb, top_peak, top_above, above_top}
use Rattle.caps.proofs.Possible.{touched_or}
use Rattle.caps.proofs.Gaps.{cover, each_is_a_gap, gaps_ascend}

-- The test for a touched position.
pub untouched_false : (ts : List Touch) (x : ℕ) → Untouched ts x → is_touched ts x ≡ false
untouched_false [] x h = refl
untouched_false (t ∷ ts) x h = cond-false _ _ _ (ne_eqb _ _ h.0) ∙ untouched_false ts x h.1

pub false_untouched : (ts : List Touch) (x : ℕ) → is_touched ts x ≡ false → Untouched ts x
false_untouched [] x = λ e. tt
false_untouched (t ∷ ts) x =
    cond_both (eqb t.position x) true (is_touched ts x) (λ b. b ≡ false → Untouched (t ∷ ts) x)
    (λ _ e. absurd (both_ways true e refl)) (λ n e. (eqb-false t.position x n, false_untouched ts x e))

module _ (line : Line) (ts : List Touch) where
  abbrev pub F : ℕ → ℤ
  F = cap line ts

  abbrev test : ℕ → Bool
  test x = not (is_touched ts x)

  abbrev Free : ℕ → Type 0
  Free x = (x ≤ line.last) × Untouched ts x

  untouched_are : AllByRecursion Free (untouched line ts)
  untouched_are =
      all_zip (λ x. x ≤ line.last) (λ x. test x ≡ true) Free (λ x l t. (l, false_untouched ts x (not-true (is_touched ts x) t))) (untouched line ts)
      (all_kept_by test (λ x. x ≤ line.last) (positions (whole line)) (positions_all (λ x. x ≤ line.last) (whole line) (omega arith) (λ x l m. m)))
      (kept_by_passes test (positions (whole line)))

  untouched_all : (P : ℕ → Type 0) → AllByRecursion P (untouched line ts) → (x : ℕ) → x ≤ line.last → Untouched ts x → P x
  untouched_all P h x l u =
      all_positions (λ y. test y ≡ true → P y) (whole line) (kept_all P test (positions (whole line)) h) x (omega arith) l (not_from_false (is_touched ts x) (untouched_false ts x u))

  pub high_is : (p : ℕ) → Leads F (untouched line ts) p → HighestUntouched line ts p
  high_is p l =
      let tops = untouched_all (λ x. (F x ≤ℤ F p) × (x < p → F x <ℤ F p)) (leads_tops F (untouched line ts) p (kept_in_order ◌<◌ test (positions (whole line)) (positions_climb (whole line))) l) in
      let at = leads_has F Free (untouched line ts) p l untouched_are in
      record { within = at.0; free = at.1; largest = λ x k u. (tops x k u).0; lowest = λ x k u. (tops x (omega (arith, at.0)) u).1 k }

  one_high : (p q : ℕ) → HighestUntouched line ts p → HighestUntouched line ts q → p ≡ q
  one_high p q g h =
      ⊎_elim (λ e. e)
      (⊎_elim (λ l. absurd (omega (arith, ints, h.lowest p l g.free, g.largest q h.within h.free)))
      (λ l. absurd (omega (arith, ints, g.lowest q l h.free, h.largest p g.within g.free))))
      (cases_order p q)

  pub high_is_the_lowest_of_the_largest : (s : Summit) → high_summit line ts ≡ Some s → HighestUntouched line ts s.place
  high_is_the_lowest_of_the_largest s e = go (picked F (untouched line ts)) (picked_picks F (untouched line ts)) e
    where
      go : (o : Option ℕ) → Picks F (untouched line ts) o → mapped (marked F) o ≡ Some s → HighestUntouched line ts s.place
      go None h e = let z : ◌≡◌ {A = ℕ} 0 1 = cc in absurd (omega arith)
      go (Some p) h e = let same : marked F p ≡ s = cc in subst (λ r. HighestUntouched line ts r.place) same (high_is p h)

  module _ (on : OnLine line ts) where
    abbrev pub gs : List Stretch
    gs = gaps line ts

    pub peaks : AllByRecursion (λ g. Peak F g.from g.to (top_place F g)) gs
    peaks = All-weaker (IsGap line ts) (λ g. Peak F g.from g.to (top_place F g)) (λ g m. top_peak F g m.some) gs (each_is_a_gap line ts on)

    -- What every gap has, and every position of it has therefore, every untouched position has.
    pub by_gaps : (W : Stretch → Type 0) (P : ℕ → Type 0) → ((g : Stretch) (x : ℕ) → g.from ≤ x → x ≤ g.to → F x ≤ℤ top F g → W g → P x) → AllByRecursion W gs → (x : ℕ) → x ≤ line.last → Untouched ts x → P x
    by_gaps W P f h x l u =
        let Q : Stretch → Type 0 = λ g. Peak F g.from g.to (top_place F g) in
        let k = cover (λ g. Q g × W g) line.last x l 0 ts u (omega arith) (all_zip Q W (λ g. Q g × W g) (λ g p q. (p, q)) gs peaks h) in
        f k.0 x k.2 k.3 (k.1.0.largest x k.2 k.3) k.1.1

    pub highest_by_gaps : (g : Stretch) → Leads (top F) gs g → HighestUntouched line ts (top_place F g)
    highest_by_gaps g l =
        let W : Stretch → Type 0 = λ k. (top F k ≤ℤ top F g) × ((top F k <ℤ top F g) ⊎ (g.from ≤ k.from)) in
        let pk = leads_has (top F) (λ g. Peak F g.from g.to (top_place F g)) gs g l peaks in
        let at = leads_has (top F) (IsGap line ts) gs g l (each_is_a_gap line ts on) in
        let behind = order_after (λ g k. g.to < k.from) l.before g l.after (subst Ascending l.there (gaps_ascend line ts on)) in
        let whole_list : AllByRecursion W gs = subst (AllByRecursion W) (sym l.there)
        (All-append W l.before (g ∷ l.after)
        (All-weaker (λ k. top F k <ℤ top F g) W (λ k m. (omega (arith, ints), inl m)) l.before l.lower)
        ((omega (arith, ints), inr (omega arith)), all_zip (λ k. top F k ≤ℤ top F g) (λ k. g.to < k.from) W (λ k m b. (m, inr (omega (arith, at.some)))) l.after l.most behind)) in
        record {
          within = omega (arith, at.within, pk.high);
          free = at.free (top_place F g) pk.low pk.high;
          largest = λ x m u. by_gaps W (λ x. F x ≤ℤ top F g) (λ k x a b c w. omega (arith, ints, w.0)) whole_list x m u;
          lowest = λ x m u. by_gaps W (λ x. x < top_place F g → F x <ℤ top F g)
              (λ k x a b c w n. ⊎_elim (λ v. omega (arith, ints)) (λ v. pk.lowest x (omega arith) n) w.1) whole_list x (omega (arith, at.within, pk.high)) u m;
        }

    pub high_lies_in_the_highest_gap : high_summit line ts ≡ mapped (summit_of F) (highest_gap line ts)
    high_lies_in_the_highest_gap = go (picked F (untouched line ts)) (picked (top F) gs) (picked_picks F (untouched line ts)) (picked_picks (top F) gs)
      where
        go : (o : Option ℕ) (k : Option Stretch) → Picks F (untouched line ts) o → Picks (top F) gs k → mapped (marked F) o ≡ mapped (summit_of F) k
        go None None p q = refl
        go None (Some g) p q = let h = highest_by_gaps g q in absurd (untouched_all (λ x. ⊥) (subst (AllByRecursion (λ x. ⊥)) (sym p) tt) (top_place F g) h.within h.free)
        go (Some x) None p q = let h = high_is x p in absurd (by_gaps (λ g. ⊥) (λ x. ⊥) (λ g x a b c w. w) (subst (AllByRecursion (λ g. ⊥)) (sym q) tt) x h.within h.free)
        go (Some x) (Some g) p q = ap (λ y. Some (marked F y)) (one_high x (top_place F g) (high_is x p) (highest_by_gaps g q))

-- The cap of a touched position is its height.
height_at : (ts : List Touch) → Rising ts → AllByRecursion (λ t. (z : ℤ) → height_or ts t.position z ≡ t.height) ts
height_at [] r = tt
height_at (t ∷ ts) r = (
  (λ z. cond-true _ _ _ (eq-eqb t.position t.position refl)),
  all_zip (λ u. t.position < u.position) (λ u. (z : ℤ) → height_or ts u.position z ≡ u.height) (λ u. (z : ℤ) → height_or (t ∷ ts) u.position z ≡ u.height)
      (λ u l h z. let n : t.position ≢ u.position = omega arith in cond-false _ _ _ (ne_eqb t.position u.position n) ∙ h z) ts r.0 (height_at ts r.1),
)

module _ (line : Line) (a : Touch) (ts : List Touch) (on : OnLine line (a ∷ ts)) where
  abbrev C : ℕ → ℤ
  C = cap line (a ∷ ts)

  abbrev low : ℤ
  low = (floor a ts).height

  pub floor_under : (floor a ts).height ≤ℤ ceiling line (a ∷ ts)
  floor_under =
      first_has (λ t. t.height) (λ t. t.height ≤ℤ ceiling line (a ∷ ts)) a ts
      (all_zip (λ t. t.position ≤ line.last) (λ t. (z : ℤ) → height_or (a ∷ ts) t.position z ≡ t.height) (λ t. t.height ≤ℤ ceiling line (a ∷ ts))
      (λ t l e. omega (arith, ints, top_above C (whole line) t.position (omega arith) l, e (least (reach line t.position) a ts))) (a ∷ ts) on.within (height_at (a ∷ ts) on.rising))

  -- What bounds the floor and every untouched position bounds the ceiling.
  pub under : (z : ℤ) → (floor a ts).height ≤ℤ z → ((x : ℕ) → x ≤ line.last → Untouched (a ∷ ts) x → C x ≤ℤ z) → ceiling line (a ∷ ts) ≤ℤ z
  under z f u =
      above_top C z (whole line) (omega arith)
      (λ x k l. ⊎_elim (λ r. omega (arith, ints, r.1, r.3)) (λ r. u x l r.0)
      (touched_or (λ t. t.height ≤ℤ low) (a ∷ ts) x (least (reach line x) a ts) (below_first (λ t. t.height) a ts)))

  over_is : (o : Option Stretch) → Picks (top C) (gaps line (a ∷ ts)) o → ceiling line (a ∷ ts) ≡ over (floor a ts).height (mapped (summit_of C) o)
  over_is None h =
      let l = under low (omega (arith, ints)) (λ x l u. absurd (by_gaps line (a ∷ ts) on (λ g. ⊥) (λ x. ⊥) (λ g x a b c w. w) (subst (AllByRecursion (λ g. ⊥)) (sym h) tt) x l u)) in
      omega (arith, ints, floor_under)
  over_is (Some g) h =
      let k = highest_by_gaps line (a ∷ ts) on g h in
      let l = under (int_max low (top C g)) (omega (arith, ints, clamps)) (λ x l u. omega (arith, ints, clamps, k.largest x l u)) in
      omega (arith, ints, clamps, floor_under, top_above C (whole line) (top_place C g) (omega arith) k.within)

  pub ceiling_is_floor_or_highest : ceiling line (a ∷ ts) ≡ over (floor a ts).height (high_summit line (a ∷ ts))
  ceiling_is_floor_or_highest =
      over_is (highest_gap line (a ∷ ts)) (picked_picks (top C) (gaps line (a ∷ ts)))
      ∙ ap (over (floor a ts).height) (sym (high_lies_in_the_highest_gap line (a ∷ ts) on))

  pub unsettled_has_a_highest_gap : (tolerance : ℕ) → is_settled line (a ∷ ts) tolerance ≡ false →
      (g : Stretch) × (highest_gap line (a ∷ ts) ≡ Some g) × (top C g ≡ ceiling line (a ∷ ts))
  unsettled_has_a_highest_gap tolerance e = go (highest_gap line (a ∷ ts)) refl (over_is (highest_gap line (a ∷ ts)) (picked_picks (top C) (gaps line (a ∷ ts))))
    where
      above : (low +ℤ pos tolerance) <ℤ ceiling line (a ∷ ts)
      above = grind (arith, ints)

      go : (o : Option Stretch) → highest_gap line (a ∷ ts) ≡ o → ceiling line (a ∷ ts) ≡ over low (mapped (summit_of C) o) → (g : Stretch) × (highest_gap line (a ∷ ts) ≡ Some g) × (top C g ≡ ceiling line (a ∷ ts))
      go None q c = absurd (omega (arith, ints, above))
      go (Some g) q c = (g, q, omega (arith, ints, clamps, above))
