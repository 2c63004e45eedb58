use Rattle.std.proofs.Common.{◌≡◌, sym, ap, ◌∙◌, subst, w32, SFits}
use Rattle.std.proofs.lemmas.Int.{to_z-of_z}
use Rattle.caps.specs.declared.Summit.{Summit}
use Rattle.caps.specs.Stretches.{Peak}
use Rattle.caps.specs.Crossings.{roof, crossing, beside}
use Rattle.caps.proofs.Crossings.{roof_peak}
use Rattle.envelope.proofs.touched.Touched.between.Goals as goal

pub returns-clause-place : goal.returns-clause-place
returns-clause-place c =
    let slope = c.args.self.now.line.slope in
    let fl : SFits w32 c.args.left = c.ranges.left in
    let fr : SFits w32 c.args.right = c.ranges.right in
    let e : c.crest.result.place ≡ beside (roof c.args.self.now.line.slope c.args.left c.args.right) c.args.from c.args.to (crossing c.args.self.now.line.slope c.args.left c.args.right) = simp to_z-of_z at c.crest.ensures.place in
    subst (Peak (roof slope c.args.left c.args.right) c.args.from c.args.to) (sym (ap (λ (s : Summit). s.place) c.with_slack.ensures ∙ e))
    (roof_peak slope c.args.left c.args.right c.args.from c.args.to c.args.self.now.sound.limits.slope_low c.requires.ends.0)
