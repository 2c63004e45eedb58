use Rattle.std.proofs.Common.{◌≡◌, ◌+◌, ◌*◌, length, subst, arith}
use Rattle.fields.proofs.Writes.{Wrote}
use Rattle.certificates.proofs.writer.write_touches.Goals as goal

pub loop-place-preserved : goal.loop-place-preserved
loop-place-preserved c = λ f small says old start.
    c.write_touch.ensures f small (says c.loop-place.place (omega arith)) old (c.loop-place.invariant f small says old start)

pub returns : goal.returns
returns c = λ f small says old start.
    let e : c.loop-place.place ≡ length c.args.touches.now = omega arith in
    subst (λ n. Wrote f (98 + 28 * n) old c.loop-place.buf) e (c.loop-place.invariant f small says old start)
