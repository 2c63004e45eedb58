use Rattle.fields.proofs.Puts.{Put}
use Rattle.fields.proofs.Field.put.Given as goal

abbrev pub invariant-loop-k : goal.invariant-loop-k
invariant-loop-k l = Put l.initial.buf l.self.at l.self.width l.value l.k l.buf
