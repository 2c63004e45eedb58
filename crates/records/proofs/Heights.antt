-- The heights of a record, by their number and by position.
use Rattle.std.proofs.Common.{◌≡◌, ℕ, ◌<◌, List, length, get_or, pos, arith}
use Rattle.std.proofs.lemmas.List.FromFn.{length-map-range_with_len, get_or-map-range_with_len}
use Rattle.records.specs.Sheet.{height_of, heights_of}

pub length_heights : (b : List ℕ) (n : ℕ) → length (heights_of b n) ≡ n
length_heights b n = length-map-range_with_len (height_of b) 0 n

pub height_in : (b : List ℕ) (n p : ℕ) → p < n → get_or (heights_of b n) p (pos 0) ≡ height_of b p
height_in b n p l = get_or-map-range_with_len (height_of b) 0 n p p (pos 0) l (omega arith)
