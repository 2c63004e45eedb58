-- Lists of heights: which heights may stand in one, and which pairs break the law.
use Rattle.std.specs.Prelude.{ℕ, zero, suc, ◌+◌, ◌-◌, ◌*◌, Bool, false, cond, not, ◌&&◌, ◌||◌, List, length, ℤ, pos, negsuc, ◌-ℤ◌, is_some, Some, None, Option, ◌==◌, int_le, nat_lt, slice_index_or, unsigned_abs}
use Rattle.terms.specs.Limits.{lowest_height, highest_height}

-- the height at a position
abbrev pub height_at : List ℤ → ℕ → ℤ
height_at xs p = slice_index_or xs p (pos 0)

-- -32768 marks a position without a reading
abbrev pub marked : ℤ → Bool
marked (pos n) = false
marked (negsuc n) = n == 32767

-- a height in range, or the mark
abbrev pub allowed : ℤ → Bool
allowed h = marked h || (int_le lowest_height h && int_le h highest_height)

-- the lowest of the n positions from p on that passes a test
abbrev pub lowest : (ℕ → Bool) → ℕ → ℕ → Option ℕ
lowest test p zero = None
lowest test p (suc n) = cond (test p) (Some p) (lowest test (p + 1) n)

-- the lowest position whose height may not stand there
abbrev pub first_outside : List ℤ → Option ℕ
first_outside xs = lowest (λ p. not (allowed (height_at xs p))) 0 (length xs)

-- two heights, both readable, that differ by more than a reach
abbrev pub apart : ℕ → ℤ → ℤ → Bool
apart reach x y = (not (marked x) && not (marked y)) && nat_lt reach (unsigned_abs (x -ℤ y))

-- the heights at an earlier and a later position break the law
abbrev pub breaks : ℕ → ℕ → List ℤ → ℕ → ℕ → Bool
breaks slope slack xs later earlier = apart (slope * (later - earlier) + slack) (height_at xs earlier) (height_at xs later)

-- the lowest earlier position that breaks the law with a later one
abbrev pub partner : ℕ → ℕ → List ℤ → ℕ → Option ℕ
partner slope slack xs later = lowest (breaks slope slack xs later) 0 later

abbrev pub paired : ℕ → Option ℕ → Option (ℕ × ℕ)
paired later None = None
paired later (Some earlier) = Some (later, earlier)

abbrev pub with_partner : (ℕ → Option ℕ) → Option ℕ → Option (ℕ × ℕ)
with_partner partners None = None
with_partner partners (Some later) = paired later (partners later)

-- the lowest position that breaks the law with an earlier one, and the lowest such earlier one
abbrev pub first_break : ℕ → ℕ → List ℤ → Option (ℕ × ℕ)
first_break slope slack xs = with_partner (partner slope slack xs) (lowest (λ later. is_some (partner slope slack xs later)) 0 (length xs))
