-- What is computed is the first item of highest rank.
use Rattle.std.proofs.Common.{◌≡◌, ℕ, zero, suc, ◌<◌, true, false, List, [], ◌∷◌, length, ℤ, ◌≤ℤ◌, ◌<ℤ◌, Some, None, Option, MatchOption, refl, sym, ap, ◌∙◌, subst, arith}
use lib.Signed.{lt_z}
use borrow.Author.Differences.{ints}
use Rattle.std.specs.List.{AllByRecursion, AllWithin, HoldsAt, fold}
use Rattle.std.proofs.ByRecursion.{All-weaker, All-append}
use Rattle.std.proofs.lemmas.Int.{by_lt_z}
use Rattle.std.proofs.lemmas.Bool.{cond_both}
use Rattle.pick.specs.Picks.{held, picked, Leads, Picks, better, first_above, Finds}

lt_true : (a b : ℤ) → a <ℤ b → lt_z a b ≡ true
lt_true a b h = grind (arith, ints)

le_false : (a b : ℤ) → b ≤ℤ a → lt_z a b ≡ false
le_false a b h = grind (arith, ints)

module _ {X : Type 0} (f : X → ℤ) where
  -- The pick so far, and the pick of the rest.
  abbrev pub join : Option X → Option X → Option X
  join None o = o
  join (Some p) o = Some (held f p o)

  pub join_none : (b : Option X) → join b None ≡ b
  join_none None = refl
  join_none (Some p) = refl

  pub join_step : (b : Option X) (x : X) (o : Option X) → join b (Some (held f x o)) ≡ join (Some (better f b x)) o
  join_step None x o = refl
  join_step (Some p) x None = refl
  join_step (Some p) x (Some y) =
      by_lt_z (f p) (f x)
      (λ h. by_lt_z (f x) (f y)
      (λ k. simp (lt_true _ _ h, lt_true _ _ k, lt_true (f p) (f y) (omega (arith, ints))))
      (λ k. simp (lt_true _ _ h, le_false _ _ k, lt_true _ _ h)))
      (λ h. by_lt_z (f x) (f y)
      (λ k. simp (le_false _ _ h, lt_true _ _ k))
      (λ k. simp (le_false _ _ h, le_false _ _ k, le_false _ _ h, le_false (f p) (f y) (omega (arith, ints)))))

  pub picked_fold : (b : Option X) (xs : List X) → fold (λ p x. Some (better f p x)) b xs ≡ join b (picked f xs)
  picked_fold b [] = sym (join_none b)
  picked_fold b (x ∷ xs) = picked_fold (Some (better f b x)) xs ∙ sym (join_step b x (picked f xs))

  after_here : (x : X) (xs : List X) (y : X) → Leads f xs y → f y ≤ℤ f x → AllByRecursion (λ z. f z ≤ℤ f x) xs
  after_here x xs y l h =
      simp l.there
      (All-append (λ z. f z ≤ℤ f x) l.before (y ∷ l.after)
      (All-weaker (λ z. f z <ℤ f y) (λ z. f z ≤ℤ f x) (λ z k. omega (arith, ints)) l.before l.lower)
      (h, All-weaker (λ z. f z ≤ℤ f y) (λ z. f z ≤ℤ f x) (λ z k. omega (arith, ints)) l.after l.most))

  leads_step : (x : X) (xs : List X) (o : Option X) → Picks f xs o → Leads f (x ∷ xs) (held f x o)
  leads_step x xs None e = record { before = []; after = xs; there = refl; lower = tt; most = simp e tt }
  leads_step x xs (Some y) l =
      by_lt_z (f x) (f y)
      (λ h. simp (lt_true _ _ h)
      (record { before = x ∷ l.before; after = l.after; there = ap (λ ys. x ∷ ys) l.there; lower = (h, l.lower); most = l.most }))
      (λ h. simp (le_false _ _ h)
      (record { before = []; after = xs; there = refl; lower = tt; most = after_here x xs y l h }))

  pub picked_picks : (xs : List X) → Picks f xs (picked f xs)
  picked_picks [] = refl
  picked_picks (x ∷ xs) = leads_step x xs (picked f xs) (picked_picks xs)

  finds_later : (z : ℤ) (x : X) (xs : List X) (o : Option X) → f x ≤ℤ z → Finds f z xs o → Finds f z (x ∷ xs) o
  finds_later z x xs None l h = (l, h)
  finds_later z x xs (Some y) l h = record { before = x ∷ h.before; after = h.after; there = ap (λ ys. x ∷ ys) h.there; under = (l, h.under); above = h.above }

  pub above_finds : (z : ℤ) (xs : List X) → Finds f z xs (first_above f z xs)
  above_finds z [] = tt
  above_finds z (x ∷ xs) =
      cond_both (lt_z z (f x)) (Some x) (first_above f z xs) (Finds f z (x ∷ xs))
      (λ e. record { before = []; after = xs; there = refl; under = tt; above = omega (arith, ints) })
      (λ e. finds_later z x xs (first_above f z xs) (omega (arith, ints)) (above_finds z xs))

  found_at : (z : ℤ) (xs : List X) (x : X) (i : ℕ) → z <ℤ f x → i < length xs → HoldsAt (λ y. y ≡ x) xs i → AllWithin (λ y. f y ≤ℤ z) xs 0 i → Some x ≡ first_above f z xs
  found_at z [] x i a l at none = absurd (omega arith)
  found_at z (y ∷ ys) x zero a l at none =
      let same = at y in
      let above : z <ℤ f y = subst (λ w. z <ℤ f w) (sym same) a in
      simp (lt_true _ _ above) (ap Some (sym same))
  found_at z (y ∷ ys) x (suc i) a l at none =
      let under : f y ≤ℤ z = none 0 y (omega arith) (omega arith) in
      simp (le_false _ _ under) (found_at z ys x i a (omega arith) at (λ k d u v. none (suc k) d (omega arith) (omega arith)))

  none_found : (z : ℤ) (xs : List X) → AllWithin (λ y. f y ≤ℤ z) xs 0 (length xs) → None ≡ first_above f z xs
  none_found z [] h = refl
  none_found z (y ∷ ys) h =
      let under : f y ≤ℤ z = h 0 y (omega arith) (omega arith) in
      simp (le_false _ _ under) (none_found z ys (λ k d u v. h (suc k) d (omega arith) (omega arith)))

  -- What `find` says of the item that it finds.
  pub above_found : (z : ℤ) (xs : List X) (r : Option X) →
      MatchOption r (AllWithin (λ y. f y ≤ℤ z) xs 0 (length xs)) (λ x. (z <ℤ f x) × (i : ℕ) × (i < length xs) × HoldsAt (λ y. y ≡ x) xs i × AllWithin (λ y. f y ≤ℤ z) xs 0 i) →
      r ≡ first_above f z xs
  above_found z xs None h = none_found z xs h
  above_found z xs (Some x) h = found_at z xs x h.1 h.0 h.2 h.3 h.4
