-- A small record, and what the tests say of it and of its neighbours.
use Rattle.std.specs.Prelude.{◌≡◌, ℕ, List, [], ◌∷◌, pos, negsuc, Some, Ok, Err}
use Rattle.terms.specs.declared.refusal.Refusal.TheVariants.{PadBitSet, LawBroken}
use Rattle.heights.specs.Heights.{first_break}
use Rattle.records.specs.Sheet.{Sheet, sheet_with, sheet_of, record_of}
use Rattle.records.specs.Verdict.{record_verdict}

abbrev pub small : Sheet
small = sheet_with 5 0 (pos 3 ∷ negsuc 1 ∷ [])

abbrev pub small_bytes : ℕ → List ℕ
small_bytes end = 0x00 ∷ 0x10 ∷ 0x00 ∷ 0x50 ∷ 0x00 ∷ 0x00 ∷ 0x00 ∷ 0x3f ∷ 0xff ∷ end ∷ []

pub record RecordExamples : Type 0 where
  pub written : record_of small ≡ small_bytes 0xe0
  pub read : sheet_of (small_bytes 0xe0) ≡ small
  pub accepted : record_verdict (small_bytes 0xe0) 1 ≡ Ok tt
  pub pad_set : record_verdict (small_bytes 0xe1) 1 ≡ Err PadBitSet
  pub law_broken : record_verdict (small_bytes 0xd0) 1 ≡ Err (LawBroken 1 0)
  -- neighbours keep the law, the first and the last do not
  pub far_pair : first_break 1 4 (pos 0 ∷ pos 5 ∷ pos 10 ∷ []) ≡ Some (2, 0)
  -- a position without a reading breaks nothing
  pub passed_over : first_break 1 4 (pos 0 ∷ negsuc 32767 ∷ pos 6 ∷ pos 8 ∷ []) ≡ Some (3, 0)
