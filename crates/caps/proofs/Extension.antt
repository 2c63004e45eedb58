-- The greatest extension of heights at some points to all points, where heights may differ by at most a distance d.
use Rattle.std.proofs.Common.{◌≡◌, ℕ, ◌+◌, ◌≤◌, List, ◌∷◌, ℤ, pos, ◌+ℤ◌, ◌≤ℤ◌, arith}
use borrow.Author.Differences.{ints}
use Rattle.std.specs.List.{ContainsAt as Has, AllByRecursion}
use Rattle.std.proofs.ByRecursion.{all-has, all_has_itself}
use Rattle.caps.specs.declared.Touch.{Touch}
use Rattle.caps.specs.Caps.{least}
use Rattle.caps.proofs.Lists.{all_zip}
use Rattle.caps.proofs.Extremes.{below_least, least_below, least_reached}

-- The height that the touch t allows at x.
abbrev pub from : (ℕ → ℕ → ℕ) → ℕ → Touch → ℤ
from d x t = t.height +ℤ pos (d t.position x)

abbrev pub extension : (ℕ → ℕ → ℕ) → Touch → List Touch → ℕ → ℤ
extension d a ts x = least (from d x) a ts

module _ (d : ℕ → ℕ → ℕ) (self : (x : ℕ) → d x x ≡ 0) (same : (x y : ℕ) → d x y ≡ d y x) (tri : (x y z : ℕ) → d x z ≤ d x y + d y z) where
  -- Heights that keep the law among themselves are those of the extension.
  pub extension_at : (a : Touch) (ts : List Touch) → AllByRecursion (λ t. AllByRecursion (λ u. t.height ≤ℤ from d t.position u) (a ∷ ts)) (a ∷ ts) →
      AllByRecursion (λ t. extension d a ts t.position ≡ t.height) (a ∷ ts)
  extension_at a ts h =
      all_zip (Has (a ∷ ts)) (λ t. AllByRecursion (λ u. t.height ≤ℤ from d t.position u) (a ∷ ts)) (λ t. extension d a ts t.position ≡ t.height)
      (λ t m q.
      let p : ℕ = t.position in
      let up = all-has (λ u. extension d a ts p ≤ℤ from d p u) (a ∷ ts) t (least_below (from d p) a ts) m in
      let down = below_least (from d p) t.height a ts q in
      omega (arith, ints, up, down, self p))
      (a ∷ ts) (all_has_itself (a ∷ ts)) h

  -- The extension keeps the law.
  pub extension_lawful : (a : Touch) (ts : List Touch) (x y : ℕ) → extension d a ts x ≤ℤ (extension d a ts y +ℤ pos (d x y))
  extension_lawful a ts x y =
      let r = least_reached (from d y) (λ t. extension d a ts x ≤ℤ from d x t) a ts (least_below (from d x) a ts) in
      omega (arith, ints, r.1, r.2, tri r.0.position y x, same x y)

  -- Nothing that keeps the law and has the heights is above the extension.
  pub below_extension : (a : Touch) (ts : List Touch) (s : ℕ → ℤ) (x : ℕ) → AllByRecursion (λ t. s t.position ≡ t.height) (a ∷ ts) →
      AllByRecursion (λ t. s x ≤ℤ (s t.position +ℤ pos (d t.position x))) (a ∷ ts) → s x ≤ℤ extension d a ts x
  below_extension a ts s x has keeps =
      below_least (from d x) (s x) a ts
      (all_zip (λ t. s t.position ≡ t.height) (λ t. s x ≤ℤ (s t.position +ℤ pos (d t.position x))) (λ t. s x ≤ℤ from d x t)
      (λ t e k. omega (arith, ints)) (a ∷ ts) has keeps)
