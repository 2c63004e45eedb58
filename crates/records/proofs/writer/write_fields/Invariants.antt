use Rattle.std.proofs.Common.{ℕ, ◌+◌, ◌*◌, ◌<◌, get_or}
use Rattle.fields.specs.Bits.{bits_of}
use Rattle.fields.proofs.Writes.{Wrote}
use Rattle.records.specs.Sheet.{fields_of, sheet_with}
use Rattle.records.proofs.writer.write_fields.Given as goal

abbrev pub invariant-loop-position : goal.invariant-loop-position
invariant-loop-position l =
    Wrote (bits_of (fields_of (sheet_with l.slope l.slack l.heights))) (44 + 16 * l.position) l.initial.buf l.buf
    × ((i : ℕ) → get_or l.buf i 0 < 256)
