-- Bits of a byte list, most significant bit first, and the numbers that runs of bits write.
use Rattle.std.specs.Prelude.{◌≡◌, ℕ, zero, suc, ◌+◌, ◌-◌, ◌*◌, ◌/◌, ◌%◌, ◌^◌, ◌<◌, ◌≤◌, cond, List, [], ◌∷◌, map, length, drop, ℤ, pos, negsuc, nat_lt, slice_index, unsigned_abs}
use Rattle.std.specs.Int.{int_rem_euclid}
use Rattle.std.specs.List.{range_with_len}

-- bit i of a byte list; bit 0 is the most significant bit of the first byte
abbrev pub bit : List ℕ → ℕ → ℕ
bit bs i = slice_index bs (i / 8) / 2 ^ (7 - i % 8) % 2

-- the number that the w bits of f from a on write
abbrev pub num : (ℕ → ℕ) → ℕ → ℕ → ℕ
num f a zero = 0
num f a (suc w) = num f a w * 2 + f (a + w)

-- the field of w bits at the bit a: one definition for every width
unfoldable pub field_of : List ℕ → ℕ → ℕ → ℕ
field_of bs a w = num (bit bs) a w

-- a field to write: its value and its width
pub record Field : Type 0 where
  pub value : ℕ
  pub width : ℕ

abbrev pub width_of : List Field → ℕ
width_of [] = 0
width_of (f ∷ fs) = f.width + width_of fs

-- bit i of the fields one after another, and 0 after the last
abbrev pub bits_of : List Field → ℕ → ℕ
bits_of [] i = 0
bits_of (f ∷ fs) i = cond (nat_lt i f.width) (f.value / 2 ^ (f.width - 1 - i) % 2) (bits_of fs (i - f.width))

-- n whole bytes of bits
abbrev pub bytes_of : ℕ → (ℕ → ℕ) → List ℕ
bytes_of n f = map (λ i. num f (8 * i) 8) (range_with_len 0 n)

-- the bytes of the fields, with 0 bits up to a whole byte
unfoldable pub packed : List Field → List ℕ
packed fs = bytes_of ((width_of fs + 7) / 8) (bits_of fs)

-- each value fits its width
abbrev pub Fit : List Field → Type 0
Fit [] = Unit {0}
Fit (f ∷ fs) = (f.value < 2 ^ f.width) × Fit fs

-- from the bit a on, b has the fields one after another, and then only 0 bits
abbrev pub Reads : (ℕ → ℕ) → ℕ → List Field → Type 0
Reads b a [] = (i : ℕ) → a ≤ i → b i ≡ 0
Reads b a (f ∷ fs) = (num b a f.width ≡ f.value) × Reads b (a + f.width) fs

-- the byte b with its first o bits, then v, then 0 bits
unfoldable pub stamped : ℕ → ℕ → ℕ → ℕ
stamped b o v = (b / 2 ^ (8 - o) * 2 + v) * 2 ^ (7 - o)

-- two's complement in w bits
abbrev pub signed_of : ℕ → ℕ → ℤ
signed_of w n = cond (nat_lt n (2 ^ (w - 1))) (pos n) (negsuc (2 ^ w - suc n))

abbrev pub complement_of : ℕ → ℤ → ℕ
complement_of w z = unsigned_abs (int_rem_euclid z (pos (2 ^ w)))

-- z is a number of w bits in two's complement
abbrev pub FitsSigned : ℕ → ℤ → Type 0
FitsSigned w (pos n) = n < 2 ^ (w - 1)
FitsSigned w (negsuc n) = n < 2 ^ (w - 1)

-- new is old with a value stored in the w bits at a, 0 bits from there to the end of the byte, and all later bytes as they were
pub record Stored (old new : List ℕ) (a w value : ℕ) : Type 0 where
  pub before : (i : ℕ) → i < a → bit new i ≡ bit old i
  pub stored : field_of new a w ≡ value
  pub pad : (i : ℕ) → a + w ≤ i → i < 8 * ((a + w + 7) / 8) → bit new i ≡ 0
  pub after : drop ((a + w + 7) / 8) new ≡ drop ((a + w + 7) / 8) old

-- What packing is for, over any list of fields whose values fit their widths.
pub record Packing : Type 0 where
  -- the packed bytes have the fields one after another, and then only 0 bits
  pub reads_back : (fs : List Field) → Fit fs → Reads (bit (packed fs)) 0 fs
  -- no other bytes of that length have them
  pub only : (fs : List Field) (bs : List ℕ) → ((i : ℕ) → slice_index bs i < 256) → length bs ≡ (width_of fs + 7) / 8 → Reads (bit bs) 0 fs → bs ≡ packed fs
