use Rattle.std.proofs.Common.{ℕ, List, refl}
use Rattle.texts.proofs.Runs.{no_word, a_word}
use Rattle.texts.proofs.words.next_word.Goals as goal

pub returns-in_err-from-clause-value : goal.returns-in_err-from-clause-value
returns-in_err-from-clause-value c =
    let xs : List ℕ = c.args.bytes.now in
    rw c.from_residual.ensures (no_word xs c.in_err-from.ensures)

pub returns-clause-value : goal.returns-clause-value
returns-clause-value c =
    let xs : List ℕ = c.args.bytes.now in
    let w = a_word xs c.in_ok-from.field-0 c.in_ok-from.ensures c.word_end.result _ c.unwrap_or.result refl c.word_end.ensures c.unwrap_or.ensures in
    rw (c.split_at.ensures.front, c.split_at.ensures.back) w
