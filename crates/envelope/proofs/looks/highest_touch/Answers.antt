use Rattle.std.proofs.lemmas.Iterator.{YieldsList-from_slice}
use Rattle.std.proofs.lemmas.Iterator.Consumers.{YieldsList-from_copied}
use Rattle.envelope.proofs.looks.highest_touch.Goals as goal

pub returns : goal.returns
returns c =
    let ts = c.args.touches.now in
    c.first_highest.ensures.is ts (YieldsList-from_copied (YieldsList-from_slice ts cc)).runs
