-- The running extremes by which the law is tested in one loop.
use Rattle.std.specs.Prelude.{ℕ, ◌+◌, Bool, ◌||◌, ℤ, pos, ◌+ℤ◌, ◌-ℤ◌, int_lt}

-- a height at slope × position = rise is too far from the greatest height + slope × position, or from the least height − slope × position, of the heights before it
abbrev pub stray : ℤ → ℤ → ℤ → ℕ → ℕ → Bool
stray greatest least height rise slack = int_lt (height +ℤ pos (rise + slack)) greatest || int_lt least (height -ℤ pos (rise + slack))
