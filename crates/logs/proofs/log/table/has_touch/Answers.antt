use Rattle.std.proofs.Common.{◌==◌, rules, sym, ◌∙◌}
use borrow.Author.Tests.{tests}
use Rattle.std.proofs.lemmas.Iterator.{YieldsList-from_slice}
use Rattle.std.proofs.lemmas.Iterator.Search.{any_from_yields_List}
use Rattle.caps.specs.declared.Touch.{Touch}
use Rattle.logs.proofs.Tables.{touched_any}
use Rattle.logs.proofs.log.table.has_touch.Goals as goal

pub returns : goal.returns
returns c =
    let p = c.args.position in
    let ts = c.args.touches.now in
    any_from_yields_List (λ (t : Touch). t.position == p) _ _ c.any.result c.any.ensures.ran (YieldsList-from_slice ts cc) (λ x b q k. search (rules, tests)) ∙ sym (touched_any p ts)
