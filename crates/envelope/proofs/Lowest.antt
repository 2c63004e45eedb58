-- The least of a list that may be empty.
use Rattle.std.proofs.Common.{◌≡◌, ℕ, ◌<◌, ◌≤◌, List, [], ◌∷◌, ◌++◌, length, ℤ, pos, nat_abs, ◌≤ℤ◌, arith}
use borrow.Author.Differences.{ints}
use Rattle.std.specs.Int.{int_min}
use Rattle.std.proofs.lemmas.Int.{clamps}
use Rattle.std.specs.List.{AllByRecursion}
use Rattle.caps.specs.Caps.{least}
use Rattle.envelope.specs.Walks.{lowest}

-- The least with a start above everything is the least.
pub lowest-least : {X : Type 0} (f : X → ℤ) (a : X) (xs : List X) → AllByRecursion (λ x. f x ≤ℤ pos 2147483647) (a ∷ xs) → lowest f (a ∷ xs) ≡ least f a xs
lowest-least f a [] h = let k = h.0 in omega (arith, ints, clamps)
lowest-least f a (b ∷ xs) h = let r = lowest-least f b xs h.1 in omega (arith, ints, clamps)

pub lowest_push : {X : Type 0} (f : X → ℤ) (xs : List X) (y : X) → f y ≤ℤ pos 2147483647 → lowest f (xs ++ y ∷ []) ≡ int_min (lowest f xs) (f y)
lowest_push f [] y h = omega (arith, ints, clamps)
lowest_push f (x ∷ xs) y h = let r = lowest_push f xs y h in omega (arith, ints, clamps)

pub lowest-small : {X : Type 0} (f : X → ℤ) (n : ℕ) (xs : List X) → 0 < length xs → n ≤ 2147483647 → AllByRecursion (λ x. nat_abs (f x) ≤ n) xs → nat_abs (lowest f xs) ≤ n
lowest-small f n [] some m h = absurd (omega arith)
lowest-small f n (x ∷ []) some m h = let k = h.0 in omega (arith, ints, clamps)
lowest-small f n (x ∷ (y ∷ ys)) some m h = let k = h.0 in let r = lowest-small f n (y ∷ ys) (omega arith) m h.1 in omega (arith, ints, clamps)
