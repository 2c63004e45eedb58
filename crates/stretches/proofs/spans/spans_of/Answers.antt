use Rattle.std.proofs.Common.{length, sym, ◌∙◌}
use Rattle.std.proofs.lemmas.Bool.{eqb-false}
use Rattle.stretches.proofs.Walked.{all_from_0}
use Rattle.stretches.proofs.Proved.{laws_of_spans}
use Rattle.stretches.proofs.spans.spans_of.Goals as goal

pub returns-then-is_empty-clause-laws : goal.returns-then-is_empty-clause-laws
returns-then-is_empty-clause-laws c = laws_of_spans

pub returns : goal.returns
returns c =
    let t = c.args.seen.now in
    let some = eqb-false (length t.touches.now) 0 (sym c.is_empty.ensures ∙ c.if-is_empty.false) in
    record { is = rw (all_from_0 t.line t.touches.now some) at c.spans_beside.ensures; laws = laws_of_spans }
