-- The caps of a gap, and where the largest is.
use Rattle.std.proofs.Common.{◌≡◌, ℕ, ◌+◌, ◌*◌, ◌<◌, ◌≤◌, ◌≢◌, ◌⊎◌, List, [], ◌∷◌, ◌++◌, ℤ, pos, negsuc, ◌+ℤ◌, ◌-ℤ◌, ◌≤ℤ◌, ◌<ℤ◌, refl, ap, ◌∙◌, inl, inr, ⊎_elim, mul-le-mul_left, div-mul-le_self, arith}
use native.Mathlib.Nat.{lt-div-mul-add}
use lib.Signed.{lt_z}
use borrow.Author.Differences.{ints}
use Rattle.std.specs.List.{AllByRecursion}
use Rattle.std.proofs.ByRecursion.{All-weaker, All-append}
use Rattle.std.proofs.lemmas.Bool.{cases_order, cases_lt, cond_both, ne_eqb, cond-false}
use Rattle.std.proofs.lemmas.Int.{clamps}
use Rattle.terms.specs.Meaning.{distance}
use Rattle.caps.specs.declared.Touch.{Touch}
use Rattle.caps.specs.declared.Line.{Line}
use Rattle.caps.specs.Touches.{Untouched}
use Rattle.caps.specs.Stretches.{Stretch, top_place, Peak}
use Rattle.caps.specs.Caps.{least, height_or, reach, cap}
use Rattle.caps.specs.Crossings.{rise, fall, roof, to_nat, crossing, within, beside}
use Rattle.caps.proofs.Extremes.{least_moved, least_append}
use Rattle.caps.proofs.Peaks.{peak_is_top, peak_moved}

-- Up to c the function rises, and after c it falls.
module _ (f : ℕ → ℤ) (c : ℕ) (up : (x y : ℕ) → x < y → y ≤ c → f x <ℤ f y) (down : (x y : ℕ) → c < x → x < y → f y <ℤ f x) (a b : ℕ) (h : a ≤ b) where
  abbrev p : ℕ
  p = within a b c

  abbrev q : ℕ
  q = within a b (c + 1)

  left_of : (x : ℕ) → a ≤ x → x < p → f x <ℤ f p
  left_of x l m = up x p m (omega arith)

  up_to : (x : ℕ) → a ≤ x → x ≤ p → f x ≤ℤ f p
  up_to x l m = ⊎_elim (λ e. let g = ap f e in omega (arith, ints)) (⊎_elim (λ k. let g = left_of x l k in omega (arith, ints)) (λ k. absurd (omega arith))) (cases_order x p)

  right_of : (x : ℕ) → p < x → x ≤ b → f x ≤ℤ f q
  right_of x l m = ⊎_elim (λ e. let g = ap f e in omega (arith, ints)) (⊎_elim (λ k. absurd (omega arith)) (λ k. let g = down q x (omega arith) k in omega (arith, ints))) (cases_order x q)

  peak : Peak f a b (beside f a b c)
  peak =
      cond_both (lt_z (f p) (f q)) q p (Peak f a b)
      (λ e. record {
        low = omega arith;
        high = omega arith;
        largest = λ x l m. ⊎_elim (λ k. let g = right_of x k m in omega (arith, ints)) (λ k. let g = up_to x l k in omega (arith, ints)) (cases_lt p x);
        lowest = λ x l m. let g = up_to x l (omega arith) in omega (arith, ints);
      })
      (λ e. record {
        low = omega arith;
        high = omega arith;
        largest = λ x l m. ⊎_elim (λ k. let g = right_of x k m in omega (arith, ints)) (λ k. let g = up_to x l k in omega (arith, ints)) (cases_lt p x);
        lowest = λ x l m. left_of x l m;
      })

-- An integer is its natural number, or negative, with natural number 0.
pub to_nat_is : (z : ℤ) → (z ≡ pos (to_nat z)) ⊎ ((z <ℤ pos 0) × (to_nat z ≡ 0))
to_nat_is (pos n) = inl refl
to_nat_is (negsuc n) = inr (omega (arith, ints), refl)

crossing_below : (slope : ℕ) (l r : ℤ) → (2 * (slope * crossing slope l r) ≤ to_nat (r -ℤ l)) × (0 < slope → to_nat (r -ℤ l) < 2 * (slope * (crossing slope l r + 1)))
crossing_below slope l r = (
  omega (arith, div-mul-le_self (to_nat (r -ℤ l)) (2 * slope)),
  λ h. let k : 0 < 2 * slope = omega arith in omega (arith, lt-div-mul-add {a = to_nat (r -ℤ l)} k),
)

-- The better of the two whole neighbours of the crossing is the peak.
pub roof_peak : (slope : ℕ) (l r : ℤ) (a b : ℕ) → 0 < slope → a ≤ b → Peak (roof slope l r) a b (beside (roof slope l r) a b (crossing slope l r))
roof_peak slope l r a b h k = peak (roof slope l r) (crossing slope l r) up down a b k
  where
    up : (x y : ℕ) → x < y → y ≤ crossing slope l r → roof slope l r x <ℤ roof slope l r y
    up x y m n =
        let c = crossing_below slope l r in
        let s1 = mul-le-mul_left slope m in
        let s2 = mul-le-mul_left slope n in
        ⊎_elim (λ e. omega (arith, ints, clamps, c.0)) (λ e. absurd (omega (arith, c.0, e.1))) (to_nat_is (r -ℤ l))

    down : (x y : ℕ) → crossing slope l r < x → x < y → roof slope l r y <ℤ roof slope l r x
    down x y m n =
        let c = crossing_below slope l r in
        let s1 = mul-le-mul_left slope m in
        let s2 = mul-le-mul_left slope n in
        ⊎_elim (λ e. omega (arith, ints, clamps, c.1 h)) (λ e. omega (arith, ints, clamps, c.1 h)) (to_nat_is (r -ℤ l))

-- A rising line is largest at the right end, a falling one at the left end.
pub rising_peak : (slope : ℕ) (l : ℤ) (a b : ℕ) → 0 < slope → a ≤ b → Peak (λ x. l +ℤ pos (slope * x)) a b b
rising_peak slope l a b s h = record {
  low = h;
  high = omega arith;
  largest = λ x k m. omega (arith, ints, mul-le-mul_left slope m);
  lowest = λ x k m. omega (arith, ints, mul-le-mul_left slope m);
}

pub falling_peak : (slope : ℕ) (r : ℤ) (a b : ℕ) → a ≤ b → Peak (λ x. r -ℤ pos (slope * x)) a b a
falling_peak slope r a b h = record {
  low = omega arith;
  high = h;
  largest = λ x k m. omega (arith, ints, mul-le-mul_left slope k);
  lowest = λ x k m. absurd (omega arith);
}

free_height : (ts : List Touch) (x : ℕ) (z : ℤ) → Untouched ts x → height_or ts x z ≡ z
free_height [] x z h = refl
free_height (t ∷ ts) x z h = cond-false _ _ _ (ne_eqb _ _ h.0) ∙ free_height ts x z h.1

slope_left : (slope p x : ℕ) → p < x → slope * distance p x + slope * p ≡ slope * x
unfolding distance
slope_left slope p x l = let e : distance p x + p ≡ x = omega arith in omega (arith, ap (λ n. slope * n) e)

slope_right : (slope p x : ℕ) → x < p → slope * distance p x + slope * x ≡ slope * p
unfolding distance
slope_right slope p x l = let e : distance p x + x ≡ p = omega arith in omega (arith, ap (λ n. slope * n) e)

module _ (line : Line) (x : ℕ) where
  from_left : (a : Touch) (ls : List Touch) → AllByRecursion (λ t. t.position < x) (a ∷ ls) → least (reach line x) a ls ≡ (least (rise line.slope) a ls +ℤ pos (line.slope * x)) +ℤ pos line.slack
  from_left a ls h =
      let c : ℤ = pos (line.slope * x) +ℤ pos line.slack in
      let e = least_moved (reach line x) (rise line.slope) c a ls
      (All-weaker (λ t. t.position < x) (λ t. reach line x t ≡ rise line.slope t +ℤ c) (λ t l. omega (arith, ints, slope_left line.slope t.position x l)) (a ∷ ls) h) in
      omega (arith, ints)

  from_right : (b : Touch) (rs : List Touch) → AllByRecursion (λ t. x < t.position) (b ∷ rs) → least (reach line x) b rs ≡ (least (fall line.slope) b rs -ℤ pos (line.slope * x)) +ℤ pos line.slack
  from_right b rs h =
      let c : ℤ = pos line.slack -ℤ pos (line.slope * x) in
      let e = least_moved (reach line x) (fall line.slope) c b rs
      (All-weaker (λ t. x < t.position) (λ t. reach line x t ≡ fall line.slope t +ℤ c) (λ t l. omega (arith, ints, slope_right line.slope t.position x l)) (b ∷ rs) h) in
      omega (arith, ints)

  away_left : (ts : List Touch) → AllByRecursion (λ t. t.position < x) ts → Untouched ts x
  away_left ts h = All-weaker (λ t. t.position < x) (λ t. t.position ≢ x) (λ t k. omega arith) ts h

  away_right : (ts : List Touch) → AllByRecursion (λ t. x < t.position) ts → Untouched ts x
  away_right ts h = All-weaker (λ t. x < t.position) (λ t. t.position ≢ x) (λ t k. omega arith) ts h

  -- The cap of a position with touches on both sides, on the left only, on the right only.
  pub caps_both : (a : Touch) (ls : List Touch) (b : Touch) (rs : List Touch) → AllByRecursion (λ t. t.position < x) (a ∷ ls) → AllByRecursion (λ t. x < t.position) (b ∷ rs) →
      cap line ((a ∷ ls) ++ (b ∷ rs)) x ≡ roof line.slope (least (rise line.slope) a ls) (least (fall line.slope) b rs) x +ℤ pos line.slack
  caps_both a ls b rs l r =
      let L = from_left a ls l in
      let R = from_right b rs r in
      free_height ((a ∷ ls) ++ (b ∷ rs)) x _ (All-append (λ t. t.position ≢ x) (a ∷ ls) (b ∷ rs) (away_left (a ∷ ls) l) (away_right (b ∷ rs) r))
      ∙ least_append (reach line x) a ls b rs ∙ omega (arith, ints, clamps)

  pub caps_left : (a : Touch) (ls : List Touch) → AllByRecursion (λ t. t.position < x) (a ∷ ls) → cap line (a ∷ ls) x ≡ (least (rise line.slope) a ls +ℤ pos (line.slope * x)) +ℤ pos line.slack
  caps_left a ls l = free_height (a ∷ ls) x _ (away_left (a ∷ ls) l) ∙ from_left a ls l

  pub caps_right : (b : Touch) (rs : List Touch) → AllByRecursion (λ t. x < t.position) (b ∷ rs) → cap line (b ∷ rs) x ≡ (least (fall line.slope) b rs -ℤ pos (line.slope * x)) +ℤ pos line.slack
  caps_right b rs r = free_height (b ∷ rs) x _ (away_right (b ∷ rs) r) ∙ from_right b rs r

module _ (line : Line) (g : Stretch) (positive : 1 ≤ line.slope) (some : g.from ≤ g.to) where
  lefts : (x : ℕ) → g.from ≤ x → (ts : List Touch) → AllByRecursion (λ t. t.position < g.from) ts → AllByRecursion (λ t. t.position < x) ts
  lefts x k ts = All-weaker (λ t. t.position < g.from) (λ t. t.position < x) (λ t m. omega arith) ts

  rights : (x : ℕ) → x ≤ g.to → (ts : List Touch) → AllByRecursion (λ t. g.to < t.position) ts → AllByRecursion (λ t. x < t.position) ts
  rights x k ts = All-weaker (λ t. g.to < t.position) (λ t. x < t.position) (λ t m. omega arith) ts

  pub largest_beside_the_crossing : (a : Touch) (ls : List Touch) (b : Touch) (rs : List Touch) → AllByRecursion (λ t. t.position < g.from) (a ∷ ls) → AllByRecursion (λ t. g.to < t.position) (b ∷ rs) →
      top_place (cap line ((a ∷ ls) ++ (b ∷ rs))) g
      ≡ beside (roof line.slope (least (rise line.slope) a ls) (least (fall line.slope) b rs)) g.from g.to
      (crossing line.slope (least (rise line.slope) a ls) (least (fall line.slope) b rs))
  largest_beside_the_crossing a ls b rs l r =
      let L : ℤ = least (rise line.slope) a ls in
      let R : ℤ = least (fall line.slope) b rs in
      peak_is_top (cap line ((a ∷ ls) ++ (b ∷ rs))) g (beside (roof line.slope L R) g.from g.to (crossing line.slope L R))
      (peak_moved (cap line ((a ∷ ls) ++ (b ∷ rs))) (roof line.slope L R) (pos line.slack) g.from g.to (beside (roof line.slope L R) g.from g.to (crossing line.slope L R))
      (λ x k m. caps_both line x a ls b rs (lefts x k (a ∷ ls) l) (rights x m (b ∷ rs) r)) (roof_peak line.slope L R g.from g.to positive some))

  pub largest_after_all_touches : (a : Touch) (ls : List Touch) → AllByRecursion (λ t. t.position < g.from) (a ∷ ls) → top_place (cap line (a ∷ ls)) g ≡ g.to
  largest_after_all_touches a ls l =
      let L : ℤ = least (rise line.slope) a ls in
      peak_is_top (cap line (a ∷ ls)) g g.to
      (peak_moved (cap line (a ∷ ls)) (λ x. L +ℤ pos (line.slope * x)) (pos line.slack) g.from g.to g.to
      (λ x k m. caps_left line x a ls (lefts x k (a ∷ ls) l)) (rising_peak line.slope L g.from g.to positive some))

  pub largest_before_all_touches : (b : Touch) (rs : List Touch) → AllByRecursion (λ t. g.to < t.position) (b ∷ rs) → top_place (cap line (b ∷ rs)) g ≡ g.from
  largest_before_all_touches b rs r =
      let R : ℤ = least (fall line.slope) b rs in
      peak_is_top (cap line (b ∷ rs)) g g.from
      (peak_moved (cap line (b ∷ rs)) (λ x. R -ℤ pos (line.slope * x)) (pos line.slack) g.from g.to g.from
      (λ x k m. caps_right line x b rs (rights x m (b ∷ rs) r)) (falling_peak line.slope R g.from g.to some))
