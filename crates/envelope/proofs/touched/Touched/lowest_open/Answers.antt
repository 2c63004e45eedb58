use Rattle.std.proofs.Common.{arith}
use borrow.Author.Differences.{ints}
use Rattle.caps.proofs.Proved.{laws_of_gaps}
use Rattle.envelope.proofs.Views.{open_is}
use Rattle.envelope.proofs.touched.Touched.lowest_open.Goals as goal

pub returns-in_err-floor-clause-gaps : goal.returns-in_err-floor-clause-gaps
returns-in_err-floor-clause-gaps c = laws_of_gaps

pub returns-clause-is : goal.returns-clause-is
returns-clause-is c =
    let t = c.args.self.now in
    open_is t.line t.touches.now c.in_ok-floor.floor _ c.args.tolerance c.lowest_summit.result (cc) (omega (arith, ints)) c.lowest_summit.ensures

pub returns-clause-gaps : goal.returns-clause-gaps
returns-clause-gaps c = laws_of_gaps
