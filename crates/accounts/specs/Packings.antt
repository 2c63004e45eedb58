-- The record of the sheet that a text says.
use Rattle.std.specs.Prelude.{◌≡◌, ℕ, List, Ok, Err, vec_items, Result, Vec}
use Rattle.std.specs.declared.alloc.Global.{Global}
use Rattle.texts.specs.declared.sheet.TextError.{TextError}
use Rattle.texts.specs.declared.sheet.TextError.TheVariants as text
use Rattle.texts.specs.Words.{words}
use Rattle.texts.specs.Said.{Figures, sheet_said}
use Rattle.terms.specs.declared.refusal.Refusal.{Refusal}
use Rattle.records.specs.Sheet.{Sheet, sheet_with, record_of}
use Rattle.records.specs.Verdict.{verdict_of}
use Rattle.sheets.specs.declared.failure.Failure.{Failure}
use Rattle.sheets.specs.declared.failure.Failure.TheVariants as made
use Rattle.accounts.specs.declared.packing.NotPacked.{NotPacked}
use Rattle.accounts.specs.declared.packing.NotPacked.TheVariants.{NoSheet, Refused, NoMemory}

-- a text that says no sheet, and a sheet that has no record; want of memory stays what it is
abbrev pub unsaid : TextError → NotPacked
unsaid text.NoSlope = NoSheet text.NoSlope
unsaid text.NoSlack = NoSheet text.NoSlack
unsaid (text.NoHeight p) = NoSheet (text.NoHeight p)
unsaid text.NoMemory = NoMemory

abbrev pub unmade : Failure → NotPacked
unmade (made.Refused r) = Refused r
unmade made.NoMemory = NoMemory

abbrev pub sheet_with_figures : Figures → Sheet
sheet_with_figures s = sheet_with s.slope s.slack s.heights

-- a lawful sheet's record
abbrev pub by_verdict : Result (Unit {0}) Refusal → List ℕ → Result (List ℕ) NotPacked
by_verdict (Ok t) bytes = Ok bytes
by_verdict (Err r) bytes = Err (Refused r)

abbrev pub record_with : Result Figures TextError → Result (List ℕ) NotPacked
record_with (Ok s) = by_verdict (verdict_of (sheet_with_figures s)) (record_of (sheet_with_figures s))
record_with (Err e) = Err (NoSheet e)

-- the record of the sheet that a text says, or why there is none
abbrev pub record_said : List ℕ → Result (List ℕ) NotPacked
record_said bytes = record_with (sheet_said (words bytes))

-- the answer is the defined one, or that memory is wanting
abbrev pub PacksText : List ℕ → Result (Vec ℕ Global) NotPacked → Type 0
PacksText bytes (Ok v) = record_said bytes ≡ Ok (vec_items v)
PacksText bytes (Err (NoSheet e)) = record_said bytes ≡ Err (NoSheet e)
PacksText bytes (Err (Refused r)) = record_said bytes ≡ Err (Refused r)
PacksText bytes (Err NoMemory) = Unit {0}
