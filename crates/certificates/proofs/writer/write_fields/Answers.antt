use Rattle.std.proofs.Common.{length, arith}
use Rattle.certificates.proofs.Heads.{HeadFits}
use Rattle.certificates.proofs.Touches.{all_low, all_written}
use Rattle.certificates.proofs.writer.write_fields.Goals as goal

pub write_touches-requires : goal.write_touches-requires
write_touches-requires c =
    let s = c.args.touched.now.sound in
    record { fits = (all_low c.args.touched.now.line.last c.args.touched.now.touches.now s.limits.last_high s.on_line.within, s.few); room = omega arith }

pub returns : goal.returns
returns c =
    let s = c.args.touched.now.sound in
    let fits : HeadFits c.args.touched.now.line c.args.tolerance (length c.args.touched.now.touches.now) c.args.seen = record {
      last = omega (arith, s.limits.last_high);
      slope = omega (arith, s.limits.slope_high);
      slack = omega (arith, s.limits.slack_high);
      tolerated = c.ranges.tolerance.fits;
      counted = omega (arith, s.few);
      floor = omega (arith, s.limits.last_high);
    } in
    all_written c.args.touched.now.line c.args.tolerance c.args.touched.now.touches.now c.args.seen fits
    (all_low c.args.touched.now.line.last c.args.touched.now.touches.now s.limits.last_high s.on_line.within)
    c.args.buf.now c.write_head.new.buf c.write_touches.new.buf
    (λ i. (c.type_inv.buf i).fits) (omega arith) c.write_head.ensures c.write_touches.ensures
