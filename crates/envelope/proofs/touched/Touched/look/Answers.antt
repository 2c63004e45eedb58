use Rattle.std.proofs.Common.{◌≡◌, ◌∙◌, arith, w32, to_z, of_z}
use borrow.Author.Differences.{ints}
use Rattle.caps.proofs.Proved.{laws_of_caps}
use Rattle.caps.proofs.Figures.{figures}
use Rattle.envelope.proofs.Views.{look_is}
use Rattle.envelope.proofs.touched.Touched.look.Goals as goal

pub returns-in_err-floor-clause-caps : goal.returns-in_err-floor-clause-caps
returns-in_err-floor-clause-caps c = laws_of_caps

pub returns-in_err-floor-clause-figures : goal.returns-in_err-floor-clause-figures
returns-in_err-floor-clause-figures c = figures

pub returns-clause-is : goal.returns-clause-is
returns-clause-is c =
    let t = c.args.self.now in
    let b : to_z w32 (of_z w32 c.over_floor.result) ≡ c.over_floor.result = omega (arith, ints, c.over_floor.type_inv) in
    look_is t.line t.touches.now c.in_ok-floor.floor _ c.highest_summit-summit.result t.sound (cc) c.highest_summit-summit.ensures (b ∙ c.over_floor.ensures)

pub returns-clause-caps : goal.returns-clause-caps
returns-clause-caps c = laws_of_caps

pub returns-clause-figures : goal.returns-clause-figures
returns-clause-figures c = figures
