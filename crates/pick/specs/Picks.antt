-- The first item of highest rank, and the first item above a bound.
use Rattle.std.specs.Prelude.{◌≡◌, cond, List, [], ◌∷◌, ◌++◌, ℤ, ◌≤ℤ◌, ◌<ℤ◌, Some, None, Option, int_lt}
use Rattle.std.specs.List.{AllByRecursion}

-- x, unless the item picked after it has a higher rank
abbrev pub held : {X : Type 0} → (X → ℤ) → X → Option X → X
held f x None = x
held f x (Some y) = cond (int_lt (f x) (f y)) y x

-- the pick: the first item of highest rank, of no items none
abbrev pub picked : {X : Type 0} → (X → ℤ) → List X → Option X
picked f [] = None
picked f (x ∷ xs) = Some (held f x (picked f xs))

-- the pick of x and the items after it
abbrev pub first_highest : {X : Type 0} → (X → ℤ) → X → List X → X
first_highest f x xs = held f x (picked f xs)

-- x stands in the list, each item before it has a lower rank, and none after it a higher one
pub record Leads {X : Type 0} (f : X → ℤ) (xs : List X) (x : X) : Type 0 where
  pub before : List X
  pub after : List X
  pub there : xs ≡ before ++ (x ∷ after)
  pub lower : AllByRecursion (λ y. f y <ℤ f x) before
  pub most : AllByRecursion (λ y. f y ≤ℤ f x) after

-- what the pick of a list is, in words
abbrev pub Picks : {X : Type 0} → (X → ℤ) → List X → Option X → Type 0
Picks f xs None = xs ≡ []
Picks f xs (Some x) = Leads f xs x

-- the better of the pick so far and one more item
abbrev pub better : {X : Type 0} → (X → ℤ) → Option X → X → X
better f None x = x
better f (Some p) x = cond (int_lt (f p) (f x)) x p

-- the first item whose rank exceeds z; where there is none, none
abbrev pub first_above : {X : Type 0} → (X → ℤ) → ℤ → List X → Option X
first_above f z [] = None
first_above f z (x ∷ xs) = cond (int_lt z (f x)) (Some x) (first_above f z xs)

-- x stands in the list, its rank exceeds z, and that of no item before it does
pub record Exceeds {X : Type 0} (f : X → ℤ) (z : ℤ) (xs : List X) (x : X) : Type 0 where
  pub before : List X
  pub after : List X
  pub there : xs ≡ before ++ (x ∷ after)
  pub under : AllByRecursion (λ y. f y ≤ℤ z) before
  pub above : z <ℤ f x

-- what the first item above z is, in words
abbrev pub Finds : {X : Type 0} → (X → ℤ) → ℤ → List X → Option X → Type 0
Finds f z xs None = AllByRecursion (λ y. f y ≤ℤ z) xs
Finds f z xs (Some x) = Exceeds f z xs x
