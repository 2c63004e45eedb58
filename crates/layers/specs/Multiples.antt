-- The greatest multiple at or below a height, in those words.
use Rattle.std.specs.Prelude.{◌≡◌, ℕ, ℤ, pos, ◌*ℤ◌, ◌≤ℤ◌, Ok}
use Rattle.std.specs.Int.{int_max}
use Rattle.terms.specs.Limits.{lowest_height}
use Rattle.terms.specs.Meaning.{Meaning}
use Rattle.layers.specs.Layers.{coarse_meaning}

-- g is a whole number of times q
abbrev pub Multiple : ℕ → ℤ → Type 0
Multiple q g = (k : ℤ) × (g ≡ k *ℤ pos q)

-- g is the greatest multiple of q at or below h
pub record GreatestMultiple (q : ℕ) (h g : ℤ) : Type 0 where
  pub multiple : Multiple q g
  pub at_or_below : g ≤ℤ h
  pub greatest : (x : ℤ) → Multiple q x → x ≤ℤ h → x ≤ℤ g

-- where m reads a height, coarse with step q over m reads the greatest multiple of q at or below it, but at least -20,000
abbrev pub ReadsGreatestMultiples : ℕ → Meaning → Type 0
ReadsGreatestMultiples q m =
    (p : ℕ) (h : ℤ) → m.reading p ≡ Ok h → (g : ℤ) × GreatestMultiple q h g × ((coarse_meaning q m).reading p ≡ Ok (int_max lowest_height g))
