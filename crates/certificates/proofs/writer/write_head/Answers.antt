use Rattle.std.proofs.Common.{◌≡◌, ℕ, List, length, sym, subst, arith}
use Rattle.fields.specs.Bits.{Stored}
use Rattle.certificates.proofs.Heads.{HeadFits, head_wrote}
use Rattle.certificates.proofs.writer.write_head.Goals as goal

as_value : (a b : List ℕ) (at w v u : ℕ) → v ≡ u → Stored a b at w v → Stored a b at w u
as_value a b at w v u e s = subst (Stored a b at w) e s

pub returns : goal.returns
returns c = λ ts e fit.
    let fits : HeadFits c.args.line c.args.tolerance (length ts) c.args.seen = record {
      last = omega (arith, c.requires.line.last_high);
      slope = omega (arith, c.requires.line.slope_high);
      slack = omega (arith, c.requires.line.slack_high);
      tolerated = c.ranges.tolerance.fits;
      counted = omega arith;
      floor = omega (arith, c.requires.line.last_high);
    } in
    head_wrote c.args.line c.args.tolerance ts c.args.seen fits fit _ _ _ _ _ _ _ _
    (as_value _ _ 0 12 _ _ c.from.ensures c.put.ensures.stored)
    (as_value _ _ 12 16 _ _ c.from-2.ensures c.put-2.ensures.stored)
    (as_value _ _ 28 16 _ _ c.from-3.ensures c.put-3.ensures.stored)
    (as_value _ _ 44 16 _ _ c.from-4.ensures c.put-4.ensures.stored)
    (as_value _ _ 60 9 _ _ (sym e) c.put-5.ensures.stored)
    (as_value _ _ 69 12 _ _ c.from-5.ensures c.put-6.ensures.stored)
    c.put_ceiling.ensures
