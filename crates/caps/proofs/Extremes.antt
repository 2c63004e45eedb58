-- The least of a list, and the pick.
use Rattle.std.proofs.Common.{◌≡◌, List, [], ◌∷◌, ◌++◌, ℤ, ◌+ℤ◌, ◌≤ℤ◌, refl, arith}
use lib.Signed.{lt_z}
use borrow.Author.Differences.{ints}
use Rattle.std.specs.Int.{int_min}
use Rattle.std.proofs.lemmas.Int.{clamps, by_lt_z}
use Rattle.std.proofs.lemmas.Bool.{cond_both}
use Rattle.std.specs.List.{AllByRecursion}
use Rattle.std.proofs.ByRecursion.{All-weaker}
use Rattle.pick.specs.Picks.{first_highest}
use Rattle.caps.specs.Caps.{least}

-- At most the least: at most each.
pub below_least : {X : Type 0} (f : X → ℤ) (z : ℤ) (a : X) (xs : List X) → AllByRecursion (λ x. z ≤ℤ f x) (a ∷ xs) → z ≤ℤ least f a xs
below_least f z a [] h = h.0
below_least f z a (b ∷ xs) h = let r = below_least f z b xs h.1 in omega (arith, ints, clamps)

lower : {X : Type 0} (f : X → ℤ) (y z : ℤ) (xs : List X) → y ≤ℤ z → AllByRecursion (λ x. z ≤ℤ f x) xs → AllByRecursion (λ x. y ≤ℤ f x) xs
lower f y z xs le = All-weaker (λ x. z ≤ℤ f x) (λ x. y ≤ℤ f x) (λ x h. omega (arith, ints)) xs

pub least_below : {X : Type 0} (f : X → ℤ) (a : X) (xs : List X) → AllByRecursion (λ x. least f a xs ≤ℤ f x) (a ∷ xs)
least_below f a [] = (omega (arith, ints), tt)
least_below f a (b ∷ xs) = (omega (arith, ints, clamps), lower f (least f a (b ∷ xs)) (least f b xs) (b ∷ xs) (omega (arith, ints, clamps)) (least_below f b xs))

-- The least is reached, at an element that has whatever every element has.
pub least_reached : {X : Type 0} (f : X → ℤ) (P : X → Type 0) (a : X) (xs : List X) → AllByRecursion P (a ∷ xs) → (x : X) × P x × (least f a xs ≡ f x)
least_reached f P a [] h = (a, h.0, refl)
least_reached f P a (b ∷ xs) h =
    let r = least_reached f P b xs h.1 in
    by_lt_z (least f b xs) (f a) (λ l. (r.0, r.1, omega (arith, ints, clamps, r.2))) (λ l. (a, h.0, omega (arith, ints, clamps)))

pub least_same : {X : Type 0} (f g : X → ℤ) (a : X) (xs : List X) → AllByRecursion (λ x. f x ≡ g x) (a ∷ xs) → least f a xs ≡ least g a xs
least_same f g a [] h = h.0
least_same f g a (b ∷ xs) h = let r = least_same f g b xs h.1 in omega (arith, ints, clamps)

pub least_moved : {X : Type 0} (f g : X → ℤ) (c : ℤ) (a : X) (xs : List X) → AllByRecursion (λ x. f x ≡ g x +ℤ c) (a ∷ xs) → least f a xs ≡ least g a xs +ℤ c
least_moved f g c a [] h = h.0
least_moved f g c a (b ∷ xs) h = let r = least_moved f g c b xs h.1 in let e = h.0 in omega (arith, ints, clamps)

pub least_append : {X : Type 0} (f : X → ℤ) (a : X) (xs : List X) (b : X) (ys : List X) → least f a (xs ++ (b ∷ ys)) ≡ int_min (least f a xs) (least f b ys)
least_append f a [] b ys = refl
least_append f a (x ∷ xs) b ys = let r = least_append f x xs b ys in omega (arith, ints, clamps)

-- The pick has what every item has, and no item has a higher rank.
pub first_has : {X : Type 0} (f : X → ℤ) (P : X → Type 0) (a : X) (xs : List X) → AllByRecursion P (a ∷ xs) → P (first_highest f a xs)
first_has f P a [] h = h.0
first_has f P a (b ∷ xs) h =
    cond_both (lt_z (f a) (f (first_highest f b xs))) (first_highest f b xs) a P (λ e. first_has f P b xs h.1) (λ e. h.0)

pub below_first : {X : Type 0} (f : X → ℤ) (a : X) (xs : List X) → AllByRecursion (λ x. f x ≤ℤ f (first_highest f a xs)) (a ∷ xs)
below_first f a [] = (omega (arith, ints), tt)
below_first f a (b ∷ xs) =
    let p : _ = first_highest f b xs in
    cond_both (lt_z (f a) (f p)) p a (λ v. AllByRecursion (λ x. f x ≤ℤ f v) (a ∷ (b ∷ xs)))
    (λ e. (omega (arith, ints), below_first f b xs))
    (λ e. (omega (arith, ints), All-weaker (λ x. f x ≤ℤ f p) (λ x. f x ≤ℤ f a) (λ x h. omega (arith, ints)) (b ∷ xs) (below_first f b xs)))
