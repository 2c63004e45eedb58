-- What the writer has written so far.
use Rattle.std.specs.Prelude.{◌≡◌, ℕ, ◌+◌, ◌*◌, ◌<◌, List, length, pos, slice_index_or}
use Rattle.fields.specs.Bits.{bits_of, num, Fit, complement_of}
use Rattle.fields.proofs.Writes.{Wrote}
use Rattle.caps.specs.declared.Touch.{Touch}
use Rattle.caps.specs.declared.Line.{Line}
use Rattle.caps.specs.declared.Outlook.{Outlook}
use Rattle.certificates.specs.Layout.{touch_fields, certificate_fields}

-- the 98 bits before the touches are those of the certificate, whatever the touches are
abbrev pub HeadWritten : Line → ℕ → ℕ → Outlook → List ℕ → List ℕ → Type 0
HeadWritten line tolerance count seen old new = (ts : List Touch) → length ts ≡ count → Fit (touch_fields ts) → Wrote (bits_of (certificate_fields line tolerance ts seen)) 98 old new

-- the bits of f from 98 + 28 × place on are those of the touch
pub record SaysTouch (f : ℕ → ℕ) (place : ℕ) (t : Touch) : Type 0 where
  pub position : num f (98 + 28 * place) 12 ≡ t.position
  pub height : num f (98 + 28 * place + 12) 16 ≡ complement_of 16 t.height

-- one more touch is written after those before it
abbrev pub TouchWritten : ℕ → Touch → List ℕ → List ℕ → Type 0
TouchWritten place t mid new = (f : ℕ → ℕ) → ((i : ℕ) → f i < 2) → SaysTouch f place t → (old : List ℕ) → Wrote f (98 + 28 * place) old mid → Wrote f (98 + 28 * (place + 1)) old new

-- the first n touches are written after the head
abbrev pub TouchesWritten : ℕ → List Touch → List ℕ → List ℕ → Type 0
TouchesWritten n ts mid new =
    (f : ℕ → ℕ) → ((i : ℕ) → f i < 2) → ((k : ℕ) → k < length ts → SaysTouch f k (slice_index_or ts k (record { position = 0; height = pos 0 }))) →
    (old : List ℕ) → Wrote f 98 old mid → Wrote f (98 + 28 * n) old new
