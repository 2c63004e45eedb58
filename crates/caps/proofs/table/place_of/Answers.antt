use Rattle.std.proofs.Common.{◌<◌, ◌≤◌, rules, sym, refl, ◌∙◌}
use borrow.Author.Tests.{tests}
use Rattle.std.proofs.lemmas.Iterator.{YieldsList-from_slice, IsFirst-from_position, index_from_first}
use Rattle.caps.specs.Places.{places_before}
use Rattle.caps.proofs.Places.{before_here, before_stop}
use Rattle.caps.proofs.table.place_of.Goals as goal

pub returns : goal.returns
returns c =
    let p = c.args.position in
    let ts = c.args.touches.now in
    let first = IsFirst-from_position _ _ c.position.result (λ t. p < t.position) (λ t. t.position ≤ p) c.position.ensures.ran (YieldsList-from_slice ts cc) (λ x q k. search (rules, tests)) (λ x q k. search (rules, tests)) in
    let is = index_from_first (places_before p) (λ t. p < t.position) (λ t. t.position ≤ p) refl (before_stop p) (before_here p) ts c.position.result first in
    c.unwrap_or.ensures ∙ sym is
