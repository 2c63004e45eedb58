-- What a certificate says of the sheet, and the worked example.
use Rattle.std.specs.Prelude.{◌≡◌, ℕ, true, List, [], ◌∷◌, ℤ, pos, ◌+ℤ◌, ◌≤ℤ◌, Some, Ok, Err}
use Rattle.terms.specs.Meaning.{Meaning, Lawful}
use Rattle.surveys.specs.declared.calls.Call.{Call}
use Rattle.surveys.specs.States.{line_of, opened}
use Rattle.surveys.specs.Moments.{moment}
use Rattle.caps.specs.declared.Outlook.{Outlook}
use Rattle.terms.specs.declared.refusal.Refusal.TheVariants.{BufferTooShort}
use Rattle.caps.specs.declared.Touch.{Touch}
use Rattle.caps.specs.declared.Line.{Line}
use Rattle.caps.specs.Touches.{LawfulTouches}
use Rattle.caps.specs.Caps.{ceiling, floor, NoneAbove}
use Rattle.caps.specs.Outlooks.{outlook, is_settled}
use Rattle.certificates.specs.Verdict.{certificate_verdict}

abbrev touch : ℕ → ℤ → Touch
touch p h = record { position = p; height = h }

abbrev steep : Line
steep = record { last = 10; slope = 5; slack = 0 }

abbrev five : List Touch
five = touch 0 (pos 0) ∷ touch 3 (pos 10) ∷ touch 5 (pos 5) ∷ touch 7 (pos 9) ∷ touch 10 (pos 0) ∷ []

-- The ceiling that a certificate states.
pub record CertificateBounds : Type 0 where
  -- no possible sheet stands above it
  pub no_sheet_above : (line : Line) (a : Touch) (ts : List Touch) → LawfulTouches line (a ∷ ts) → NoneAbove line (a ∷ ts) (ceiling line (a ∷ ts))
  -- it is at most the stated floor + tolerance
  pub near_the_floor : (line : Line) (a : Touch) (ts : List Touch) (tolerance : ℕ) → is_settled line (a ∷ ts) tolerance ≡ true → ceiling line (a ∷ ts) ≤ℤ ((floor a ts).height +ℤ pos tolerance)
  -- no readable height of the gauge stands above it, whatever calls made the survey
  pub no_height_above : (m : Meaning) → Lawful m → (tolerance limit : ℕ) (calls : List Call) (k : ℕ) (o : Outlook) →
      outlook (line_of m) (moment m.reading (opened m tolerance limit) calls k).touches ≡ Some o → (p : ℕ) (h : ℤ) → m.reading p ≡ Ok h → h ≤ℤ o.ceiling
  -- last 10, slope 5, slack 0, settled at tolerance 3 with the touches 0, 3, 5, 7, 10: 30 bytes, and a buffer of 29 is too short
  pub thirty : certificate_verdict steep 3 five 30 ≡ Ok 30
  pub twenty_nine : certificate_verdict steep 3 five 29 ≡ Err BufferTooShort
