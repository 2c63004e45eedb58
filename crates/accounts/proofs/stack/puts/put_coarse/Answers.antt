use Rattle.std.proofs.Common.{string_bytes, ap, ◌∙◌}
use Rattle.layers.specs.declared.step.Step.{Step}
use Rattle.accounts.proofs.Stacks.{coarse_put}
use Rattle.accounts.proofs.stack.puts.put_coarse.Goals as goal

pub returns : goal.returns
returns g c =
    coarse_put (string_bytes c.args.out.now) (string_bytes c.writeln.new.self) (string_bytes c.put_gauge.new.out)
    (g.G.Gauge.meaning c.args.gauge) (g.G.Gauge.meaning c.over.result.lower) c.args.size c.over.result.step.size
    c.in_ok-step.ensures.0 c.in_ok-writeln.ensures.bytes
    (ap g.G.Gauge.meaning c.over.ensures.made.0)
    (ap (λ (s : Step). s.size) c.over.ensures.made.1 ∙ c.in_ok-step.ensures.1)
    c.in_ok-put_gauge.ensures
