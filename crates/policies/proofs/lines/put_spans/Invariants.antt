use Rattle.std.proofs.Common.{◌≡◌, ◌++◌, drop, string_bytes}
use Rattle.policies.specs.Lines.{spans_text}
use Rattle.policies.proofs.lines.put_spans.Given as goal

abbrev pub invariant-loop-span : goal.invariant-loop-span
invariant-loop-span l = string_bytes l.out ++ spans_text l.last (drop l.span-index l.spans) ≡ string_bytes l.initial.out ++ spans_text l.last l.spans
