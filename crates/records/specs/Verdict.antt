-- What the tests of a record's bytes, and of a sheet that is to be written, answer.
-- `result_and a b` is the refusal of a, and where a has none it is b.
use Rattle.std.specs.Prelude.{ℕ, ◌+◌, ◌*◌, cond, List, ◌++◌, length, drop, is_ok, Ok, Err, Result, ◌==◌, nat_lt}
use Rattle.std.specs.Result.{result_and}
use Rattle.terms.specs.declared.refusal.Refusal.{Refusal}
use Rattle.terms.specs.declared.refusal.Refusal.TheVariants.{RecordTooShort, RecordLengthWrong, PadBitSet, BufferTooShort}
use Rattle.heights.specs.Verdicts.{Verdict, line_verdict, heights_verdict, sheet_verdict, name_verdict}
use Rattle.fields.specs.Bits.{field_of}
use Rattle.records.specs.Sheet.{Sheet, last_of, slope_of, slack_of, heights_of, record_of}

-- the length that the last position calls for, and then 0 in the four bits after the last height
abbrev pub shape_verdict : List ℕ → ℕ → Verdict
shape_verdict b last =
    cond (length b == 6 + 2 * (last + 1))
    (cond (field_of b (44 + 16 * (last + 1)) 4 == 0) (Ok tt) (Err PadBitSet))
    (Err RecordLengthWrong)

-- a record that is to be the gauge of that name: 1; 2, 3, 4; 5, 6; 7, 8; 9
abbrev pub record_verdict : List ℕ → ℕ → Verdict
record_verdict b name =
    cond (nat_lt (length b) 6) (Err RecordTooShort)
    (result_and (line_verdict (last_of b) (slope_of b) (slack_of b))
    (result_and (shape_verdict b (last_of b))
    (result_and (heights_verdict (slope_of b) (slack_of b) (heights_of b (last_of b + 1)))
    (name_verdict name))))

-- a sheet that may have a record: 2, 3, 4; 7, 8
abbrev pub verdict_of : Sheet → Verdict
verdict_of s = sheet_verdict s.slope s.slack s.heights

-- what writing a sheet's record into a buffer answers: the number of bytes, or a refusal
abbrev pub write_verdict : Sheet → ℕ → Result ℕ Refusal
write_verdict s room =
    result_and (verdict_of s)
    (cond (nat_lt room (6 + 2 * length s.heights)) (Err BufferTooShort) (Ok (6 + 2 * length s.heights)))

-- what the buffer then has
abbrev pub write_leaves : Sheet → List ℕ → List ℕ
write_leaves s old = cond (is_ok (write_verdict s (length old))) (record_of s ++ drop (6 + 2 * length s.heights) old) old
