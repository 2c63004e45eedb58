use Rattle.std.proofs.Common.{◌≡◌, true, false, refl, rules}
use Rattle.std.proofs.lemmas.Iterator.{first_from_Range}
use Rattle.heights.specs.Heights.{breaks}
use Rattle.heights.proofs.Lowest.{lowest_from}
use Rattle.heights.proofs.law.Sheet.find_partner.Goals as goal

pub returns : goal.returns
returns g c =
    let test = breaks c.args.self.now.bound.slope c.args.self.now.bound.slack (g.H.Heights.list c.args.self.now.heights.now) c.args.later in
    lowest_from test c.args.later _ _ refl
    (first_from_Range _ _ _ _ (λ k. test k ≡ true) (λ k. test k ≡ false) c.find.ensures.ran
    (λ x q k. search rules)
    (λ x q k. (search rules, search rules)))
