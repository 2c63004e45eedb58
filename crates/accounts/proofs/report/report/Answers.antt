use Rattle.std.proofs.Common.{◌≡◌, ℕ, List, Ok, string_bytes, sym, ap, ◌∙◌}
use Rattle.records.specs.Laws.{record_meaning}
use Rattle.accounts.specs.Reports.{record_name, record_lines, after_text}
use Rattle.accounts.proofs.Stacks.{whole, report-told}
use Rattle.accounts.proofs.report.report.Goals as goal

pub returns-in-Ok : goal.returns-in-Ok
returns-in-Ok c =
    let b : List ℕ = c.args.bytes.now in
    let made = c.new-record.result in
    let bytes : made.bytes.now ≡ b = c.new-record.ensures.0 in
    let name : made.name ≡ record_name = c.new-record.ensures.1 in
    let start = string_bytes c.new-out.result in
    let lines : record_lines made.bytes.now made.name ≡ record_lines b record_name = ap (λ x. record_lines x made.name) bytes ∙ ap (record_lines b) name in
    report-told b c.args.layers.beam c.args.layers.step
    start (string_bytes c.put_record.new.out) (string_bytes c.put_stack.new.out)
    (record_meaning made.bytes.now made.name)
    (sym c.in_default.ensures) c.new-out.ensures.bytes (ap (λ (ls : List (List ℕ)). after_text start (Ok ls)) (sym lines) ∙ ap whole (sym c.in_ok-put_record.ensures))
    (ap (λ x. record_meaning x made.name) bytes ∙ ap (record_meaning b) name)
    c.in-Ok.ensures
