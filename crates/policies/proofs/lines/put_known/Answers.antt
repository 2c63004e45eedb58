use Rattle.std.proofs.Common.{length, string_bytes, ap, ◌∙◌}
use Rattle.logs.specs.Logs.{state_of}
use Rattle.policies.specs.Lines.{spans_text, bounds_text, tally_text}
use Rattle.policies.proofs.Texts.{three}
use Rattle.policies.proofs.lines.put_known.Goals as goal

pub returns : goal.returns
returns c =
    three (string_bytes c.args.out.now) (string_bytes c.put_spans.new.out) (string_bytes c.put_bounds.new.out) (string_bytes c.put_tally.new.out) _ _ _ _ _ _
    c.in_ok-put_spans.ensures (ap (spans_text c.args.log.now.notes.line.last) (c.as_slice.ensures.value ∙ c.in_ok-gaps.ensures.is))
    c.in_ok-put_bounds.ensures (ap bounds_text c.look.ensures)
    c.in_ok-put_tally.ensures
    (ap (λ n. tally_text n c.most_touches.result) c.number_of_touches.ensures ∙ ap (tally_text (length (state_of c.args.log.now).touches)) c.most_touches.ensures)
