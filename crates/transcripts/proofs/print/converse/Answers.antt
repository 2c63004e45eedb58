use Rattle.std.proofs.Common.{◌≡◌, ℕ, List, length, IfOk, string_bytes, ap, ◌∙◌, subst}
use Rattle.surveys.specs.Moments.{answers_to}
use Rattle.surveys.proofs.Moments.{answers_long}
use Rattle.commands.specs.Orders.{orders}
use Rattle.transcripts.specs.Told.{asked, lines_told}
use Rattle.transcripts.specs.Transcripts.{started}
use Rattle.transcripts.proofs.Tellings.{lines_as_told}
use Rattle.transcripts.proofs.print.converse.Goals as goal

pub print_lines-requires : goal.print_lines-requires
print_lines-requires g c =
    let m = g.G.Gauge.meaning c.args.gauge in
    let a = c.as_slice-2.ensures.value ∙ c.in_ok-answers.ensures ∙ ap (answers_to m.reading (started m)) (c.as_slice.ensures.value ∙ c.in_ok-calls.ensures) in
    ap length a ∙ answers_long m.reading (started m) (asked (orders c.args.input.now))

pub returns : goal.returns
returns g c =
    let m = g.G.Gauge.meaning c.args.gauge in
    let os = orders c.args.input.now in
    let a = c.as_slice-2.ensures.value ∙ c.in_ok-answers.ensures ∙ ap (answers_to m.reading (started m)) (c.as_slice.ensures.value ∙ c.in_ok-calls.ensures) in
    subst (λ (text : List ℕ). IfOk c.print_lines.result (λ t. string_bytes t ≡ text)) (ap (lines_told os) a ∙ lines_as_told m.reading (started m) os) c.print_lines.ensures
