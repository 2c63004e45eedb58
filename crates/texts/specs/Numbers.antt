-- Decimal numbers.
use Rattle.std.specs.Prelude.{ℕ, ◌+◌, ◌-◌, ◌*◌, ◌^◌, Bool, cond, ◌&&◌, List, [], ◌∷◌, length, Some, None, Option, nat_le}
use Rattle.std.specs.Str.{all_ascii_digits}

-- the number that decimal digits write
abbrev pub value : List ℕ → ℕ
value [] = 0
value (d ∷ ds) = (d - 48) * 10 ^ length ds + value ds

-- 1 to 5 decimal digits
abbrev pub is_number : List ℕ → Bool
is_number ds = nat_le 1 (length ds) && (nat_le (length ds) 5 && all_ascii_digits ds)

abbrev pub number_of : List ℕ → Option ℕ
number_of ds = cond (is_number ds) (Some (value ds)) None
