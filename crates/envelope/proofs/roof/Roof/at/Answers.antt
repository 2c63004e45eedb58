use Rattle.std.proofs.Common.{arith}
use borrow.Author.Differences.{ints}
use Rattle.std.proofs.lemmas.Int.{clamps}
use Rattle.envelope.proofs.roof.Roof.at.Goals as goal

pub returns-clause-cap : goal.returns-clause-cap
returns-clause-cap c = omega (arith, ints, clamps)

pub returns-clause-small : goal.returns-clause-small
returns-clause-small c = omega (arith, ints, clamps)
