-- What a gauge means, and the law of gauges.
use Rattle.std.specs.Prelude.{◌≡◌, ℕ, ◌+◌, ◌-◌, ◌*◌, ◌<◌, ◌≤◌, ℤ, ◌-ℤ◌, ◌≤ℤ◌, Ok, Err, Result, unsigned_abs}
use Rattle.terms.specs.declared.fault.Fault.{Fault}
use Rattle.terms.specs.declared.fault.Cause.TheVariants.{Beyond, Unread}
use Rattle.terms.specs.Limits.{last_max, slope_max, slack_max, highest_height, lowest_height}

-- the distance of two positions; `-` stops at 0
unfoldable pub distance : ℕ → ℕ → ℕ
distance p q = (p - q) + (q - p)

-- the heights y at p and z at q keep the law: they differ by at most slope × distance + slack
abbrev pub Keeps : ℕ → ℕ → ℕ → ℕ → ℤ → ℤ → Type 0
Keeps slope slack p q y z = unsigned_abs (y -ℤ z) ≤ slope * distance p q + slack

-- a height that a reading may give
pub record Height (h : ℤ) : Type 0 where
  pub low : lowest_height ≤ℤ h
  pub high : h ≤ℤ highest_height

-- what a reading answers: a height or a fault
abbrev pub Reading : Type 0
Reading = Result ℤ Fault

-- A gauge means a last position, a slope, a slack and a reading of each position.
pub record Meaning : Type 0 where
  pub last : ℕ
  pub slope : ℕ
  pub slack : ℕ
  pub reading : ℕ → Reading

-- The law of a gauge. A position with a height is readable.
pub record Lawful (m : Meaning) : Type 0 where
  pub last_low : 1 ≤ m.last
  pub last_high : m.last ≤ last_max
  pub slope_low : 1 ≤ m.slope
  pub slope_high : m.slope ≤ slope_max
  pub slack_high : m.slack ≤ slack_max
  pub heights : (p : ℕ) (h : ℤ) → m.reading p ≡ Ok h → Height h
  -- up to the last position a fault has the cause Unread, beyond it there is a fault of the cause Beyond
  pub missing : (p : ℕ) (f : Fault) → p ≤ m.last → m.reading p ≡ Err f → f.cause ≡ Unread
  pub past : (p : ℕ) → m.last < p → (f : Fault) × (m.reading p ≡ Err f) × (f.cause ≡ Beyond)
  -- a fault tells the position asked
  pub asked : (p : ℕ) (f : Fault) → m.reading p ≡ Err f → f.position ≡ p
  -- any two readable heights keep the law
  pub near : (p q : ℕ) (h k : ℤ) → m.reading p ≡ Ok h → m.reading q ≡ Ok k → Keeps m.slope m.slack p q h k
