use Rattle.std.proofs.Common.{◌∙◌}
use Rattle.std.proofs.lemmas.Iterator.Consumers.{YieldsList-from_first}
use Rattle.envelope.specs.Walks.{summits}
use Rattle.envelope.specs.Rest.{rest}
use Rattle.envelope.proofs.Views.{highest_is}
use Rattle.envelope.proofs.touched.Touched.highest_summit.Goals as goal

pub returns : goal.returns
returns c =
    let t = c.args.self.now in
    c.first_highest.ensures.is _ (YieldsList-from_first (λ x. x) rest (summits t.line t.touches.now) c.gaps.ensures).runs
    ∙ highest_is t.line t.touches.now t.sound
