-- The two lines that bound a gap, and where the lower of them is largest.
use Rattle.std.specs.Prelude.{ℕ, ◌+◌, ◌*◌, ◌/◌, min, max, cond, ℤ, pos, negsuc, ◌+ℤ◌, ◌-ℤ◌, int_lt}
use Rattle.std.specs.Int.{int_min}
use Rattle.caps.specs.declared.Touch.{Touch}

-- where the line that rises from a touch, and the line that falls to it, stand at position 0
abbrev pub rise : ℕ → Touch → ℤ
rise slope t = t.height -ℤ pos (slope * t.position)

abbrev pub fall : ℕ → Touch → ℤ
fall slope t = t.height +ℤ pos (slope * t.position)

-- at x, the lower of the line that rises from l and the line that falls from r
abbrev pub roof : ℕ → ℤ → ℤ → ℕ → ℤ
roof slope l r x = int_min (l +ℤ pos (slope * x)) (r -ℤ pos (slope * x))

-- an integer as a natural number, 0 where it is negative
abbrev pub to_nat : ℤ → ℕ
to_nat (pos n) = n
to_nat (negsuc n) = 0

-- the last whole position at or before the crossing of the two lines
abbrev pub crossing : ℕ → ℤ → ℤ → ℕ
crossing slope l r = to_nat (r -ℤ l) / (2 * slope)

-- c kept within a .. b
abbrev pub within : ℕ → ℕ → ℕ → ℕ
within a b c = max a (min b c)

-- of the whole neighbours c and c + 1 of a crossing, kept within a .. b, the one where f is larger, the lower on a tie
abbrev pub beside : (ℕ → ℤ) → ℕ → ℕ → ℕ → ℕ
beside f a b c = cond (int_lt (f (within a b c)) (f (within a b (c + 1)))) (within a b (c + 1)) (within a b c)
