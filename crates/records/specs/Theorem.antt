-- Each lawful sheet has exactly one record.
use Rattle.std.specs.Prelude.{◌≡◌, ℕ, ◌<◌, List, Ok, slice_index}
use Rattle.records.specs.Sheet.{Sheet, sheet_of, record_of}
use Rattle.records.specs.Verdict.{record_verdict, verdict_of}

abbrev pub Bytes : List ℕ → Type 0
Bytes b = (i : ℕ) → slice_index b i < 256

pub record OneRecordEach : Type 0 where
  -- a lawful sheet's record is accepted, and reads back as that sheet
  pub accepted : (s : Sheet) (name : ℕ) → verdict_of s ≡ Ok tt → 0 < name → Bytes (record_of s) × (record_verdict (record_of s) name ≡ Ok tt)
  pub reads_back : (s : Sheet) → verdict_of s ≡ Ok tt → sheet_of (record_of s) ≡ s
  -- what is accepted says a lawful sheet, and is that sheet's record
  pub lawful : (b : List ℕ) (name : ℕ) → record_verdict b name ≡ Ok tt → verdict_of (sheet_of b) ≡ Ok tt
  pub only : (s : Sheet) (b : List ℕ) (name : ℕ) → Bytes b → record_verdict b name ≡ Ok tt → sheet_of b ≡ s → b ≡ record_of s
