use Rattle.certificates.specs.Steps.{TouchesWritten}
use Rattle.certificates.proofs.writer.write_touches.Given as goal

abbrev pub invariant-loop-place : goal.invariant-loop-place
invariant-loop-place l = TouchesWritten l.place l.touches l.initial.buf l.buf
