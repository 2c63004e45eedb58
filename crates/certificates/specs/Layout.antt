-- The bytes of a certificate, packed as those of a record are.
use Rattle.std.specs.Prelude.{ℕ, ◌+◌, ◌*◌, ◌/◌, List, [], ◌∷◌, length}
use Rattle.fields.specs.Bits.{Field, packed, complement_of}
use Rattle.caps.specs.declared.Touch.{Touch}
use Rattle.caps.specs.declared.Line.{Line}
use Rattle.caps.specs.declared.Outlook.{Outlook}
use Rattle.caps.specs.Outlooks.{seen}

-- each touch in rising order: its position in 12 bits, its height in 16, signed
abbrev pub touch_fields : List Touch → List Field
touch_fields [] = []
touch_fields (t ∷ ts) = record { value = t.position; width = 12 } ∷ record { value = complement_of 16 t.height; width = 16 } ∷ touch_fields ts

-- last 12, slope 16, slack 16, tolerance 16, touch count 9, floor position 12, ceiling 17 signed, then the touches
abbrev pub certificate_fields : Line → ℕ → List Touch → Outlook → List Field
certificate_fields line tolerance ts o =
    record { value = line.last; width = 12 } ∷ record { value = line.slope; width = 16 } ∷ record { value = line.slack; width = 16 }
    ∷ record { value = tolerance; width = 16 } ∷ record { value = length ts; width = 9 }
    ∷ record { value = o.floor.position; width = 12 } ∷ record { value = complement_of 17 o.ceiling; width = 17 } ∷ touch_fields ts

-- the certificate of touches that tell o
unfoldable pub certificate_with : Line → ℕ → List Touch → Outlook → List ℕ
certificate_with line tolerance ts o = packed (certificate_fields line tolerance ts o)

-- the certificate: a function of last, slope, slack, tolerance and the touches alone
abbrev pub certificate_of : Line → ℕ → Touch → List Touch → List ℕ
certificate_of line tolerance a ts = certificate_with line tolerance (a ∷ ts) (seen line a ts)

-- the bytes of a certificate with n touches
abbrev pub certificate_size : ℕ → ℕ
certificate_size n = (98 + 28 * n + 7) / 8
