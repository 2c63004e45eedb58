use Rattle.std.proofs.Common.{string_bytes, ◌∙◌}
use Rattle.policies.proofs.Texts.{one_more, all_told}
use Rattle.policies.proofs.lines.put_spans.Goals as goal

pub loop-span-preserved : goal.loop-span-preserved
loop-span-preserved c =
    one_more c.args.last c.args.spans.now c.loop-span.span-index (string_bytes c.loop-span.out) _ _ c.loop-span-test.true c.in_ok-put_span.ensures ∙ c.loop-span.invariant

pub returns : goal.returns
returns c = all_told c.args.last c.args.spans.now c.loop-span.span-index (string_bytes c.loop-span.out) _ c.loop-span-test.false c.loop-span.invariant
