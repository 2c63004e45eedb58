use Rattle.std.proofs.Common.{refl}
use Rattle.fields.specs.Bits.{field_of, packed}
use Rattle.records.specs.Sheet.{sheet_of, record_of}
use Rattle.records.specs.Examples.{RecordExamples}

pub record_examples : RecordExamples
unfolding field_of packed sheet_of record_of
record_examples = record { written = refl; read = refl; accepted = refl; pad_set = refl; law_broken = refl; far_pair = refl; passed_over = refl }
