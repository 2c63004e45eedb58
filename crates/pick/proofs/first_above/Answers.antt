use Rattle.std.proofs.Common.{◌≤ℤ◌, ◌<ℤ◌, rules, sym, subst}
use Rattle.std.proofs.lemmas.Iterator.{first_from_find}
use Rattle.pick.specs.Picks.{Finds}
use Rattle.pick.proofs.Computed.{above_found, above_finds}
use Rattle.pick.proofs.first_above.Goals as goal

pub returns-clause-is : goal.returns-clause-is
returns-clause-is g c = λ xs h.
    let f = g.I.Item.Ranked.level in
    let z = c.args.bound in
    above_found f z xs c.find.result
    (first_from_find {steps = g.I.Iterator.next_gives} {s = c.args.items} c.find.new.self _ c.find.result (λ y. z <ℤ f y) (λ y. f y ≤ℤ z) c.find.ensures.ran (record { runs = h }) (λ x q k. search rules) (λ x q k. search rules))

pub returns-clause-first : goal.returns-clause-first
returns-clause-first g c = λ xs h.
    let f = g.I.Item.Ranked.level in
    let z = c.args.bound in
    subst (Finds f z xs) (sym (returns-clause-is g c xs h)) (above_finds f z xs)
