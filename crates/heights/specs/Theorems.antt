-- The law between every two heights, and what the search for a break tells of it.
use Rattle.std.specs.Prelude.{◌≡◌, ℕ, ◌+◌, ◌-◌, ◌*◌, ◌<◌, false, List, length, ℤ, ◌-ℤ◌, Some, None, unsigned_abs}
use Rattle.heights.specs.Heights.{height_at, marked, first_break}

-- a position whose height is no mark
abbrev pub Readable : List ℤ → ℕ → Type 0
Readable xs p = marked (height_at xs p) ≡ false

-- the positions i and j, both readable, differ by more than slope × distance + slack
pub record Breaking (slope slack : ℕ) (xs : List ℤ) (i j : ℕ) : Type 0 where
  pub first : Readable xs i
  pub second : Readable xs j
  pub differ : slope * (j - i) + slack < unsigned_abs (height_at xs i -ℤ height_at xs j)

-- j is the lowest position that breaks the law with an earlier one, and i the lowest such earlier one
pub record Told (slope slack : ℕ) (xs : List ℤ) (j i : ℕ) : Type 0 where
  pub before : i < j
  pub within : j < length xs
  pub breaking : Breaking slope slack xs i j
  pub none_lower : (k m : ℕ) → k < m → m < j → Breaking slope slack xs k m → ⊥
  pub none_earlier : (k : ℕ) → k < i → Breaking slope slack xs k j → ⊥

-- no two readable heights break the law
abbrev pub KeepsLaw : ℕ → ℕ → List ℤ → Type 0
KeepsLaw slope slack xs = (i j : ℕ) → i < j → j < length xs → Breaking slope slack xs i j → ⊥

-- The search for a break finds none exactly when no two readable heights break the law, and else tells the pair that is to be told.
pub record BreaksAreTold : Type 0 where
  pub none_kept : (slope slack : ℕ) (xs : List ℤ) → first_break slope slack xs ≡ None → KeepsLaw slope slack xs
  pub kept_none : (slope slack : ℕ) (xs : List ℤ) → KeepsLaw slope slack xs → first_break slope slack xs ≡ None
  pub some_told : (slope slack : ℕ) (xs : List ℤ) (j i : ℕ) → first_break slope slack xs ≡ Some (j, i) → Told slope slack xs j i
  pub told_some : (slope slack : ℕ) (xs : List ℤ) (j i : ℕ) → Told slope slack xs j i → first_break slope slack xs ≡ Some (j, i)
