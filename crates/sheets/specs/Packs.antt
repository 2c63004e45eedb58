-- What packing a sheet answers.
use Rattle.std.specs.Prelude.{◌≡◌, ℕ, List, ℤ, Ok, Err, vec_items, Result, Vec}
use Rattle.std.specs.declared.alloc.Global.{Global}
use Rattle.sheets.specs.declared.failure.Failure.{Failure}
use Rattle.sheets.specs.declared.failure.Failure.TheVariants.{Refused, NoMemory}
use Rattle.records.specs.Sheet.{sheet_with, record_of}
use Rattle.records.specs.Verdict.{verdict_of}

-- the sheet's record, or its refusal; only memory can be wanting beside that
abbrev pub PackedAs : ℕ → ℕ → List ℤ → Result (Vec ℕ Global) Failure → Type 0
PackedAs slope slack heights (Ok v) = vec_items v ≡ record_of (sheet_with slope slack heights)
PackedAs slope slack heights (Err (Refused e)) = verdict_of (sheet_with slope slack heights) ≡ Err e
PackedAs slope slack heights (Err NoMemory) = Unit {0}
