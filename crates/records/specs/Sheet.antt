-- A sheet, its record and what a record says.
use Rattle.std.specs.Prelude.{ℕ, ◌+◌, ◌-◌, ◌*◌, List, ◌∷◌, map, length, ℤ}
use Rattle.std.specs.List.{range_with_len}
use Rattle.fields.specs.Bits.{Field, field_of, packed, signed_of, complement_of}

-- A sheet; its last position is the count of its heights less 1.
pub record Sheet : Type 0 where
  pub slope : ℕ
  pub slack : ℕ
  pub heights : List ℤ

-- the sheet of a slope, a slack and heights
abbrev pub sheet_with : ℕ → ℕ → List ℤ → Sheet
sheet_with slope slack heights = record { slope = slope; slack = slack; heights = heights }

-- What the fields of a record say: 12 bits of last position, 16 of slope, 16 of slack, then 16 for each height, signed.
abbrev pub last_of : List ℕ → ℕ
last_of b = field_of b 0 12

abbrev pub slope_of : List ℕ → ℕ
slope_of b = field_of b 12 16

abbrev pub slack_of : List ℕ → ℕ
slack_of b = field_of b 28 16

abbrev pub height_of : List ℕ → ℕ → ℤ
height_of b p = signed_of 16 (field_of b (44 + 16 * p) 16)

-- the first n heights of a record
abbrev pub heights_of : List ℕ → ℕ → List ℤ
heights_of b n = map (height_of b) (range_with_len 0 n)

-- what a record says
unfoldable pub sheet_of : List ℕ → Sheet
sheet_of b = record { slope = slope_of b; slack = slack_of b; heights = heights_of b (last_of b + 1) }

-- a height in two's complement
abbrev pub height_field : ℤ → Field
height_field h = record { value = complement_of 16 h; width = 16 }

-- the fields of a sheet's record, with their widths
abbrev pub fields_of : Sheet → List Field
fields_of s =
    record { value = length s.heights - 1; width = 12 } ∷ record { value = s.slope; width = 16 } ∷ record { value = s.slack; width = 16 } ∷ map height_field s.heights

-- the record of a sheet: its fields packed, with 0 bits up to a whole byte
unfoldable pub record_of : Sheet → List ℕ
record_of s = packed (fields_of s)
