-- The readings of a gauge as a list of heights.
use Rattle.std.specs.Prelude.{ℕ, List, map, ℤ, negsuc, Ok, Err}
use Rattle.std.specs.List.{range_with_len}
use Rattle.terms.specs.Meaning.{Meaning, Reading}

-- a height, or -32,768 where there is no reading
abbrev pub entry : Reading → ℤ
entry (Ok h) = h
entry (Err f) = negsuc 32767

-- the entries of the positions before n
abbrev pub entries : Meaning → ℕ → List ℤ
entries m n = map (λ p. entry (m.reading p)) (range_with_len 0 n)
