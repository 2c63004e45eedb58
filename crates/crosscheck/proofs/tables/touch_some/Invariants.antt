use Rattle.std.proofs.Common.{◌≡◌, ◌≤◌, vec_len}
use Rattle.terms.specs.Limits.{touches_max}
use Rattle.crosscheck.proofs.tables.touch_some.Given as goal

abbrev pub invariant-loop : goal.invariant-loop
invariant-loop l = (vec_len l.touches ≡ touches_max) × (l.count ≤ touches_max)
