use Rattle.std.proofs.Common.{string_bytes, ap, ◌∙◌}
use Rattle.terms.specs.Meaning.{Meaning}
use Rattle.gauges.specs.declared.tent.Tent.{Tent}
use Rattle.gauges.specs.Tents.{tent_meaning}
use Rattle.layers.specs.Layers.{sum_meaning}
use Rattle.accounts.specs.declared.stack.Beam.{Beam}
use Rattle.accounts.specs.Reports.{beam_name}
use Rattle.accounts.proofs.Stacks.{beam_is, beam_put}
use Rattle.accounts.proofs.stack.puts.put_stack.Goals as goal

abbrev meant : Tent → Meaning
meant t = tent_meaning t.last t.slope t.crown t.height t.name

pub returns-in_ok-writeln-in-Some-default : goal.returns-in_ok-writeln-in-Some-default
returns-in_ok-writeln-in-Some-default g c =
    let m : Meaning = g.G.Gauge.meaning c.args.gauge in
    let b : Beam = c.in-Some-default.beam in
    let s = c.of.result in
    beam_put (string_bytes c.args.out.now) (string_bytes c.writeln.new.self) (string_bytes c.put_stepped.new.out)
    m (sum_meaning (g.G.Gauge.meaning s.first) (meant s.second)) b c.args.layers.beam c.args.layers.step c.put_stepped.result
    c.in-Some-default.is-0 c.in_ok-tent-in-Some-default.ensures.0 c.in_ok-writeln-in-Some-default.ensures.bytes
    (ap (λ x. sum_meaning (g.G.Gauge.meaning x) (meant s.second)) c.of.ensures.made.0
    ∙ ap (sum_meaning m) (ap meant c.of.ensures.made.1 ∙ beam_is m.last b.slope b.crown b.height beam_name c.in_ok-tent-in-Some-default.tent c.in_ok-tent-in-Some-default.ensures.1))
    c.put_stepped.ensures
