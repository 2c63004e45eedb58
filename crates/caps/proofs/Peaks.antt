-- The lowest place of the largest value over a stretch.
use Rattle.std.proofs.Common.{◌≡◌, ℕ, ◌+◌, ◌-◌, ◌<◌, ◌≤◌, ℤ, ◌+ℤ◌, ◌≤ℤ◌, ◌<ℤ◌, sym, ap, ◌∙◌, subst, ⊎_elim, arith}
use borrow.Author.Differences.{ints}
use Rattle.std.specs.List.{AllByRecursion}
use Rattle.std.proofs.lemmas.Bool.{cases_order, cases_eq}
use Rattle.pick.specs.Picks.{Leads}
use Rattle.pick.proofs.Computed.{picked_picks}
use Rattle.caps.specs.declared.Summit.{Summit}
use Rattle.caps.specs.Touches.{InOrder}
use Rattle.caps.specs.Stretches.{Stretch, positions, top_place, top, marked, summit_of, Peak}
use Rattle.caps.proofs.Lists.{counting_all, all_counting, counting_climbs, leads_tops, leads_has}

-- What holds of each position of a stretch.
pub positions_all : (P : ℕ → Type 0) (s : Stretch) → s.from ≤ s.to → ((x : ℕ) → s.from ≤ x → x ≤ s.to → P x) → AllByRecursion P (positions s)
positions_all P s h k = (k s.from (omega arith) h, counting_all P (s.from + 1) (s.to - s.from) (λ x l m. k x (omega arith) (omega arith)))

pub all_positions : (P : ℕ → Type 0) (s : Stretch) → AllByRecursion P (positions s) → (x : ℕ) → s.from ≤ x → x ≤ s.to → P x
all_positions P s h x l m = ⊎_elim (λ e. subst P e h.0) (λ ne. all_counting P (s.from + 1) (s.to - s.from) h.1 x (omega arith) (omega arith)) (cases_eq s.from x)

pub positions_climb : (s : Stretch) → InOrder ◌<◌ (positions s)
positions_climb s = (counting_all (λ y. s.from < y) (s.from + 1) (s.to - s.from) (λ x l m. omega arith), counting_climbs (s.from + 1) (s.to - s.from))

-- The pick of a stretch's positions is the peak there.
pub top_peak : (f : ℕ → ℤ) (s : Stretch) → s.from ≤ s.to → Peak f s.from s.to (top_place f s)
top_peak f s h =
    let p : ℕ = top_place f s in
    let l : Leads f (positions s) p = picked_picks f (positions s) in
    let tops = all_positions (λ x. (f x ≤ℤ f p) × (x < p → f x <ℤ f p)) s (leads_tops f (positions s) p (positions_climb s) l) in
    let at = leads_has f (λ x. (s.from ≤ x) × (x ≤ s.to)) (positions s) p l (positions_all (λ x. (s.from ≤ x) × (x ≤ s.to)) s h (λ x l m. (l, m))) in
    record { low = at.0; high = at.1; largest = λ x l m. (tops x l m).0; lowest = λ x l m. (tops x l (omega (arith, at.1))).1 m }

pub top_above : (f : ℕ → ℤ) (s : Stretch) (x : ℕ) → s.from ≤ x → x ≤ s.to → f x ≤ℤ top f s
top_above f s x l m = (top_peak f s (omega arith)).largest x l m

pub above_top : (f : ℕ → ℤ) (z : ℤ) (s : Stretch) → s.from ≤ s.to → ((x : ℕ) → s.from ≤ x → x ≤ s.to → f x ≤ℤ z) → top f s ≤ℤ z
above_top f z s h k = let p = top_peak f s h in k (top_place f s) p.low p.high

-- There is one peak.
pub one_peak : (f : ℕ → ℤ) (a b p q : ℕ) → Peak f a b p → Peak f a b q → p ≡ q
one_peak f a b p q g h =
    ⊎_elim (λ e. e)
    (⊎_elim (λ l. absurd (omega (arith, ints, h.lowest p g.low l, g.largest q h.low h.high)))
    (λ l. absurd (omega (arith, ints, g.lowest q h.low l, h.largest p g.low g.high))))
    (cases_order p q)

pub peak_is_top : (f : ℕ → ℤ) (s : Stretch) (p : ℕ) → Peak f s.from s.to p → top_place f s ≡ p
peak_is_top f s p k = one_peak f s.from s.to (top_place f s) p (top_peak f s (omega (arith, k.low, k.high))) k

-- A summit at the peak, with the value there, is the summit.
pub summit_is : (f : ℕ → ℤ) (g : Stretch) (s : Summit) → Peak f g.from g.to s.place → s.cap ≡ f s.place → s ≡ summit_of f g
summit_is f g s k c =
    let same : s ≡ marked f s.place = ap (λ z. at z s.place) c in
    same ∙ ap (marked f) (sym (peak_is_top f g s.place k))
  where
    at : ℤ → ℕ → Summit
    at z p = record { cap = z; place = p }

-- A peak stays where it is when all values are moved by the same amount.
pub peak_moved : (f g : ℕ → ℤ) (c : ℤ) (a b p : ℕ) → ((x : ℕ) → a ≤ x → x ≤ b → f x ≡ g x +ℤ c) → Peak g a b p → Peak f a b p
peak_moved f g c a b p e k =
    let at_p = e p k.low k.high in
    record {
      low = k.low;
      high = k.high;
      largest = λ x l m. omega (arith, ints, e x l m, k.largest x l m);
      lowest = λ x l m. omega (arith, ints, e x l (omega (arith, k.high)), k.lowest x l m);
    }
