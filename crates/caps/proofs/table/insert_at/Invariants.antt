use Rattle.std.proofs.Common.{◌≡◌, ◌++◌, get_or, take, drop}
use Rattle.std.specs.List.{insert}
use Rattle.caps.proofs.table.insert_at.Given as goal

abbrev pub invariant-loop-i : goal.invariant-loop-i
invariant-loop-i g l =
    (l.carried ≡ get_or (insert l.initial.items l.at l.initial.carried) l.i l.initial.carried) ×
    (l.items ≡ take l.i (insert l.initial.items l.at l.initial.carried) ++ drop l.i l.initial.items)
