-- The limits of positions, slopes, slacks, heights, steps, tolerances and touches. Each stands here once.
use Rattle.std.specs.Prelude.{ℕ, ℤ, pos, negsuc}

-- the highest last position, in tenths of a millimetre
abbrev pub last_max : ℕ
last_max = 4000

-- the highest slope, in micrometres for each tenth of a millimetre
abbrev pub slope_max : ℕ
slope_max = 40000

-- the highest slack, in micrometres
abbrev pub slack_max : ℕ
slack_max = 40000

-- the highest height, 20,000 micrometres
abbrev pub highest_height : ℤ
highest_height = pos 20000

-- the lowest height, -20,000 micrometres
abbrev pub lowest_height : ℤ
lowest_height = negsuc 19999

-- the highest step to which heights are rounded
abbrev pub step_max : ℕ
step_max = 1000

-- the highest tolerance of a survey, in micrometres
abbrev pub tolerance_max : ℕ
tolerance_max = 40000

-- the most touches that a survey keeps
abbrev pub touches_max : ℕ
touches_max = 256
