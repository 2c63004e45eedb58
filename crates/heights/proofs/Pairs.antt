-- Running extremes of height ± slope × position tell whether one more height breaks the law.
use Rattle.std.proofs.Common.{◌≡◌, ℕ, ◌+◌, ◌-◌, ◌*◌, ◌<◌, ◌≤◌, true, false, not, ◌⊎◌, List, length, ℤ, pos, negsuc, ◌+ℤ◌, ◌-ℤ◌, nat_abs, ◌≤ℤ◌, ◌<ℤ◌, is_some, Some, None, sym, ap, ◌∙◌, inl, inr, ⊎_elim, mul-add, arith}
use lib.Signed.{lt_z}
use Rattle.std.specs.Int.{int_max, int_min}
use Rattle.std.proofs.lemmas.Int.{ints, clamps}
use Rattle.std.proofs.lemmas.Bool.{cases_Bool, cases_lt, lt-ltb, le-ltb, or_parts, or_cases, and_from, and_left, and_right, not_from_false, not_from_true, not-false, both_ways}
use Rattle.heights.specs.Heights.{height_at, marked, allowed, apart, breaks, partner, first_outside, first_break, with_partner, paired}
use Rattle.heights.specs.Extremes.{stray}
use Rattle.terms.specs.Meaning.{Height}
use Rattle.heights.proofs.Lowest.{lowest_none, lowest_some, none_lowest, lowest_found}

pub ranged : (h : ℤ) → allowed h ≡ true → marked h ≡ false → Height h
ranged h a m = record { low = grind (arith, ints); high = grind (arith, ints) }

pub ranged_at : (xs : List ℤ) → first_outside xs ≡ None → (p : ℕ) → p < length xs → marked (height_at xs p) ≡ false → Height (height_at xs p)
ranged_at xs e p l m =
    ranged (height_at xs p) (not-false _ (none_lowest (λ k. not (allowed (height_at xs k))) 0 (length xs) e p (omega arith) (omega arith))) m

rise_split : (slope i j : ℕ) → i < j → slope * i + slope * (j - i) ≡ slope * j
rise_split slope i j l = let e : i + (j - i) ≡ j = omega arith in sym (mul-add slope i (j - i)) ∙ ap (λ k. slope * k) e

-- the extremes bound each readable height of the first n
pub record Bounds (slope : ℕ) (xs : List ℤ) (n : ℕ) (greatest least : ℤ) : Type 0 where
  pub above : (i : ℕ) → i < n → marked (height_at xs i) ≡ false → (height_at xs i +ℤ pos (slope * i)) ≤ℤ greatest
  pub below : (i : ℕ) → i < n → marked (height_at xs i) ≡ false → least ≤ℤ (height_at xs i -ℤ pos (slope * i))
  pub at_greatest : (greatest ≡ negsuc 199999999) ⊎ ((i : ℕ) × (i < n) × (marked (height_at xs i) ≡ false) × (greatest ≡ height_at xs i +ℤ pos (slope * i)))
  pub at_least : (least ≡ pos 200000000) ⊎ ((i : ℕ) × (i < n) × (marked (height_at xs i) ≡ false) × (least ≡ height_at xs i -ℤ pos (slope * i)))

module _ (slope : ℕ) (xs : List ℤ) (n : ℕ) (greatest least : ℤ) (b : Bounds slope xs n greatest least) where
  -- a height without a reading changes nothing
  pub bounds_marked : marked (height_at xs n) ≡ true → Bounds slope xs (n + 1) greatest least
  bounds_marked t = record {
    above = λ i l m. ⊎_elim (λ k. b.above i k m) (λ k. let e : n ≡ i = omega arith in absurd (both_ways (marked (height_at xs i)) m (rw e at t))) (cases_lt i n);
    below = λ i l m. ⊎_elim (λ k. b.below i k m) (λ k. let e : n ≡ i = omega arith in absurd (both_ways (marked (height_at xs i)) m (rw e at t))) (cases_lt i n);
    at_greatest = ⊎_elim inl (λ w. inr (w.0, omega (arith, w.1), w.2, w.3)) b.at_greatest;
    at_least = ⊎_elim inl (λ w. inr (w.0, omega (arith, w.1), w.2, w.3)) b.at_least;
  }

  max_is : (x y : ℤ) → (int_max x y ≡ x) ⊎ (int_max x y ≡ y)
  max_is x y = ⊎_elim (λ t. inl (rw t)) (λ t. inr (rw t)) (cases_Bool (lt_z y x))

  min_is : (x y : ℤ) → (int_min x y ≡ x) ⊎ (int_min x y ≡ y)
  min_is x y = ⊎_elim (λ t. inr (rw t)) (λ t. inl (rw t)) (cases_Bool (lt_z y x))

  pub bounds_more : marked (height_at xs n) ≡ false → Bounds slope xs (n + 1) (int_max greatest (height_at xs n +ℤ pos (slope * n))) (int_min least (height_at xs n -ℤ pos (slope * n)))
  bounds_more t = record {
    above = λ i l m. ⊎_elim (λ k. omega (arith, ints, clamps, b.above i k m)) (λ k. let e : i ≡ n = omega arith in rw e (omega (arith, ints, clamps))) (cases_lt i n);
    below = λ i l m. ⊎_elim (λ k. omega (arith, ints, clamps, b.below i k m)) (λ k. let e : i ≡ n = omega arith in rw e (omega (arith, ints, clamps))) (cases_lt i n);
    at_greatest = ⊎_elim (λ e. ⊎_elim (λ s. inl (e ∙ s)) (λ w. inr (w.0, omega (arith, w.1), w.2, e ∙ w.3)) b.at_greatest) (λ e. inr (n, omega arith, t, e)) (max_is greatest (height_at xs n +ℤ pos (slope * n)));
    at_least = ⊎_elim (λ e. ⊎_elim (λ s. inl (e ∙ s)) (λ w. inr (w.0, omega (arith, w.1), w.2, e ∙ w.3)) b.at_least) (λ e. inr (n, omega arith, t, e)) (min_is least (height_at xs n -ℤ pos (slope * n)));
  }

not_under : (a b : ℤ) → lt_z a b ≡ false → b ≤ℤ a
not_under a b e = grind (arith, ints)

under : (a b : ℤ) → lt_z a b ≡ true → a <ℤ b
under a b e = grind (arith, ints)

pub apart_from : (reach : ℕ) (x y : ℤ) → marked x ≡ false → marked y ≡ false → reach < nat_abs (x -ℤ y) → apart reach x y ≡ true
apart_from reach x y m n l = and_from _ _ (and_from _ _ (not_from_false _ m) (not_from_false _ n)) (lt-ltb _ _ l)

-- a, c and b are slope × earlier, slope × distance and slope × later
close : (x y greatest least : ℤ) (a b c slack : ℕ) → a + c ≡ b → (x +ℤ pos a) ≤ℤ greatest → least ≤ℤ (x -ℤ pos a) → greatest ≤ℤ (y +ℤ pos (b + slack)) → (y -ℤ pos (b + slack)) ≤ℤ least → nat_abs (x -ℤ y) ≤ c + slack
close x y greatest least a b c slack e f g h i = omega (arith, ints)

over : (x y greatest : ℤ) (a b c slack : ℕ) → a + c ≡ b → greatest ≡ x +ℤ pos a → (y +ℤ pos (b + slack)) <ℤ greatest → c + slack < nat_abs (x -ℤ y)
over x y greatest a b c slack e f g = omega (arith, ints)

beneath : (x y least : ℤ) (a b c slack : ℕ) → a + c ≡ b → least ≡ x -ℤ pos a → least <ℤ (y -ℤ pos (b + slack)) → c + slack < nat_abs (x -ℤ y)
beneath x y least a b c slack e f g = omega (arith, ints)

module _ (slope slack : ℕ) (xs : List ℤ) (n : ℕ) (greatest least : ℤ) (b : Bounds slope xs n greatest least) where
  -- a height that does not stray breaks the law with no earlier one
  pub near : stray greatest least (height_at xs n) (slope * n) slack ≡ false → (i : ℕ) → i < n → breaks slope slack xs n i ≡ false
  near s i l =
      let p = or_parts (lt_z (height_at xs n +ℤ pos (slope * n + slack)) greatest) (lt_z least (height_at xs n -ℤ pos (slope * n + slack))) s in
      ⊎_elim
      (λ (m : marked (height_at xs i) ≡ true). rw m)
      (λ (m : marked (height_at xs i) ≡ false). and_right _ _ (le-ltb _ _
      (close (height_at xs i) (height_at xs n) greatest least (slope * i) (slope * n) (slope * (n - i)) slack (rise_split slope i n l) (b.above i l m) (b.below i l m) (not_under _ _ p.0) (not_under _ _ p.1))))
      (cases_Bool (marked (height_at xs i)))

  met : marked (height_at xs n) ≡ false → (i : ℕ) → i < n → marked (height_at xs i) ≡ false → slope * (n - i) + slack < nat_abs (height_at xs i -ℤ height_at xs n) → is_some (partner slope slack xs n) ≡ true
  met t i l m f = lowest_found (breaks slope slack xs n) 0 n i (omega arith) (omega arith) (apart_from (slope * (n - i) + slack) (height_at xs i) (height_at xs n) m t f)

  high_start : (y z : ℤ) → Height y → z ≡ negsuc 199999999 → (k : ℕ) → (y +ℤ pos k) <ℤ z → ⊥
  high_start y z r e k l = omega (arith, ints, r.low)

  low_start : (y z : ℤ) → Height y → z ≡ pos 200000000 → (k : ℕ) → z <ℤ (y -ℤ pos k) → ⊥
  low_start y z r e k l = omega (arith, ints, r.high)

  -- one that strays breaks it with some
  pub far : marked (height_at xs n) ≡ false → Height (height_at xs n) → stray greatest least (height_at xs n) (slope * n) slack ≡ true → is_some (partner slope slack xs n) ≡ true
  far t r s =
      ⊎_elim
      (λ h. ⊎_elim
      (λ e. absurd (high_start (height_at xs n) greatest r e (slope * n + slack) (under _ _ h)))
      (λ w. met t w.0 w.1 w.2 (over (height_at xs w.0) (height_at xs n) greatest (slope * w.0) (slope * n) (slope * (n - w.0)) slack (rise_split slope w.0 n w.1) w.3 (under _ _ h)))
      b.at_greatest)
      (λ h. ⊎_elim
      (λ e. absurd (low_start (height_at xs n) least r e (slope * n + slack) (under _ _ h)))
      (λ w. met t w.0 w.1 w.2 (beneath (height_at xs w.0) (height_at xs n) least (slope * w.0) (slope * n) (slope * (n - w.0)) slack (rise_split slope w.0 n w.1) w.3 (under _ _ h)))
      b.at_least)
      (or_cases (lt_z (height_at xs n +ℤ pos (slope * n + slack)) greatest) (lt_z least (height_at xs n -ℤ pos (slope * n + slack))) s)

-- no partner
pub alone : (slope slack : ℕ) (xs : List ℤ) (n : ℕ) → ((i : ℕ) → i < n → breaks slope slack xs n i ≡ false) → is_some (partner slope slack xs n) ≡ false
alone slope slack xs n h = ap is_some (lowest_none (breaks slope slack xs n) 0 n (λ k a l. h k (omega arith)))

pub alone_marked : (slope slack : ℕ) (xs : List ℤ) (n : ℕ) → marked (height_at xs n) ≡ true → is_some (partner slope slack xs n) ≡ false
alone_marked slope slack xs n m = alone slope slack xs n (λ i l. and_left _ _ (and_right _ _ (not_from_true _ m)))

-- what the search for a break answers
pub break_none : (slope slack : ℕ) (xs : List ℤ) → ((k : ℕ) → k < length xs → is_some (partner slope slack xs k) ≡ false) → first_break slope slack xs ≡ None
break_none slope slack xs h = ap (with_partner (partner slope slack xs)) (lowest_none (λ k. is_some (partner slope slack xs k)) 0 (length xs) (λ k a l. h k (omega arith)))

pub break_some : (slope slack : ℕ) (xs : List ℤ) (later earlier : ℕ) → later < length xs → ((k : ℕ) → k < later → is_some (partner slope slack xs k) ≡ false) → partner slope slack xs later ≡ Some earlier → first_break slope slack xs ≡ Some (later, earlier)
break_some slope slack xs later earlier l h e =
    ap (with_partner (partner slope slack xs)) (lowest_some (λ k. is_some (partner slope slack xs k)) 0 (length xs) later (omega arith) (omega arith) (ap is_some e) (λ k a b. h k b)) ∙ ap (paired later) e

pub bounds_at : (slope : ℕ) (xs : List ℤ) (n : ℕ) (g h l m : ℤ) → h ≡ g → m ≡ l → Bounds slope xs n g l → Bounds slope xs n h m
bounds_at slope xs n g h l m e f b = rw (e, f) b
