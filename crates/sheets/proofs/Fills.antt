-- A lawful sheet is written into a buffer of the right length.
use Rattle.std.proofs.Common.{◌≡◌, ℕ, ◌+◌, ◌*◌, false, ltb, List, [], length, drop, Ok, append-nil, arith}
use Rattle.std.proofs.lemmas.List.{drop_all}
use Rattle.std.proofs.lemmas.Bool.{le-ltb}
use Rattle.records.specs.Sheet.{Sheet, record_of}
use Rattle.records.specs.Verdict.{verdict_of, write_verdict, write_leaves}

module _ (s : Sheet) (old : List ℕ) (lawful : verdict_of s ≡ Ok tt) (room : length old ≡ 6 + 2 * length s.heights) where
  pub fits : write_verdict s (length old) ≡ Ok (6 + 2 * length s.heights)
  fits = let enough : ltb (length old) (6 + 2 * length s.heights) ≡ false = le-ltb _ _ (omega arith) in rw (lawful, enough)

  pub filled : write_leaves s old ≡ record_of s
  filled =
      let none : drop (6 + 2 * length s.heights) old ≡ [] = drop_all (6 + 2 * length s.heights) old (omega arith) in
      rw fits (rw none (append-nil (record_of s)))
