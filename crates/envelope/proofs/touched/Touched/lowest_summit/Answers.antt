use Rattle.std.proofs.Common.{◌≡◌, ap, ◌∙◌, arith, w32, to_z, of_z}
use borrow.Author.Differences.{ints}
use Rattle.std.proofs.lemmas.Iterator.Consumers.{YieldsList-from_first}
use Rattle.pick.specs.Picks.{first_above}
use Rattle.caps.specs.declared.Summit.{Summit}
use Rattle.envelope.specs.Walks.{summits}
use Rattle.envelope.specs.Rest.{rest}
use Rattle.envelope.proofs.Views.{above_is}
use Rattle.envelope.proofs.touched.Touched.lowest_summit.Goals as goal

pub returns : goal.returns
returns c =
    let t = c.args.self.now in
    let f = c.ranges.bound in
    let back : to_z w32 (of_z w32 c.args.bound) ≡ c.args.bound = omega (arith, ints) in
    c.first_above.ensures.is _ (YieldsList-from_first (λ x. x) rest (summits t.line t.touches.now) c.gaps.ensures).runs
    ∙ ap (λ z. first_above (λ (s : Summit). s.cap) z (summits t.line t.touches.now)) back
    ∙ above_is t.line t.touches.now c.args.bound
