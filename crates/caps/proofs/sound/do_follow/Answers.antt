use Rattle.std.proofs.Common.{◌+◌, List, get_or, drop, sym, subst}
use Rattle.std.proofs.lemmas.List.{drop_more}
use Rattle.caps.specs.Places.{AllFollow}
use Rattle.caps.proofs.Places.{no_touch, rest_follow, more_follow}
use Rattle.caps.proofs.sound.do_follow.Goals as goal

pub loop-touch-preserved : goal.loop-touch-preserved
loop-touch-preserved c =
    let ts = c.args.touches.now in
    let i = c.loop-touch.touch-index in
    let there = drop_more ts i no_touch c.loop-touch-test.true in
    let follows = c.does_follow.ensures.0 c.if-not-does_follow.false in
    let F : List _ → Type 0 = AllFollow c.args.line c.loop-touch.from in (
      (λ h. rest_follow c.args.line c.loop-touch.from (get_or ts i no_touch) (drop (i + 1) ts) (subst F there (c.loop-touch.invariant.0 h))),
      λ h. c.loop-touch.invariant.1 (subst F (sym there) (more_follow c.args.line c.loop-touch.from (get_or ts i no_touch) (drop (i + 1) ts) follows h)),
    )
