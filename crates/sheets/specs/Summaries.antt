-- What the readings of a gauge come to.
use Rattle.std.specs.Prelude.{◌≡◌, ℕ, zero, suc, ◌+◌, ◌<◌, cond, ℤ, neg_ℤ, ◌≤ℤ◌, ◌<ℤ◌, Some, None, Ok, Err, Option, ◌≢◌, int_lt}
use Rattle.terms.specs.Meaning.{Meaning, Reading}
use Rattle.sheets.specs.declared.summary.Spot.{Spot}
use Rattle.sheets.specs.declared.summary.Summary.{Summary}

-- 1 where a reading has a height
abbrev pub one_if_readable : Reading → ℕ
one_if_readable (Ok h) = 1
one_if_readable (Err f) = 0

-- how many of the positions before n are readable
abbrev pub readable_before : Meaning → ℕ → ℕ
readable_before m zero = 0
readable_before m (suc n) = readable_before m n + one_if_readable (m.reading n)

-- heights are ranked as they stand for the highest, and negated for the lowest
abbrev pub itself : ℤ → ℤ
itself h = h

-- the spot has the highest rank of the readable positions before n, and is the first that has it
pub record FirstHighest (rank : ℤ → ℤ) (m : Meaning) (n : ℕ) (spot : Spot) : Type 0 where
  pub before : spot.position < n
  pub read : m.reading spot.position ≡ Ok spot.height
  pub most : (p : ℕ) → p < n → (h : ℤ) → m.reading p ≡ Ok h → rank h ≤ℤ rank spot.height
  pub first : (p : ℕ) → p < spot.position → (h : ℤ) → m.reading p ≡ Ok h → rank h <ℤ rank spot.height

-- there is such a spot, or no position before n is readable
abbrev pub HighestBefore : (ℤ → ℤ) → Meaning → ℕ → Option Spot → Type 0
HighestBefore rank m n None = (p : ℕ) → p < n → (h : ℤ) → m.reading p ≢ Ok h
HighestBefore rank m n (Some spot) = FirstHighest rank m n spot

-- s is the summary of the positions before n
pub record Summarizes (m : Meaning) (n : ℕ) (s : Summary) : Type 0 where
  pub readable : s.readable ≡ readable_before m n
  pub lowest : HighestBefore neg_ℤ m n s.lowest
  pub highest : HighestBefore itself m n s.highest

-- the spot so far, unless one more has a higher rank
abbrev pub led : (ℤ → ℤ) → Option Spot → Spot → Option Spot
led rank None spot = Some spot
led rank (Some held) spot = cond (int_lt (rank held.height) (rank spot.height)) (Some spot) (Some held)

-- the summary with one reading more
abbrev pub with_reading : Summary → ℕ → Reading → Summary
with_reading s p (Ok h) = record { readable = s.readable + 1; lowest = led neg_ℤ s.lowest (record { position = p; height = h }); highest = led itself s.highest (record { position = p; height = h }) }
with_reading s p (Err f) = s

-- the summary of the positions before n, one reading after another
abbrev pub summary_before : Meaning → ℕ → Summary
summary_before m zero = record { readable = 0; lowest = None; highest = None }
summary_before m (suc n) = with_reading (summary_before m n) n (m.reading n)
