use Rattle.std.proofs.Common.{◌-◌, take, arith}
use Rattle.std.proofs.lemmas.List.{length-take-le}
use Rattle.caps.proofs.Places.{before_le, table_is}
use Rattle.caps.proofs.Proved.{laws_of_one_more}
use Rattle.caps.proofs.table.insert_touch.Goals as goal

pub insert_at-requires-clause-within : goal.insert_at-requires-clause-within
insert_at-requires-clause-within c =
    let T = c.args.table.now in
    let n = c.args.count in
    let le = before_le c.args.touch.position (take (n - 0) T) in
    let long = length-take-le (n - 0) T (omega arith) in
    omega arith

pub returns : goal.returns
returns c = record { is = table_is c.args.table.now c.args.count c.args.touch _ _ c.place_of-at.ensures c.insert_at.ensures; laws = laws_of_one_more }
