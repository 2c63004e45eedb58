use Rattle.certificates.proofs.Bounds.{certificate_bounds}
use Rattle.certificates.proofs.Touches.{told_within}
use Rattle.certificates.proofs.writer.told.Goals as goal

pub returns : goal.returns
returns c = record { is = c.look.ensures.is; within = told_within c.args.touched.now.line c.args.touched.now.touches.now c.args.touched.now.sound c.look.result c.look.ensures.is; bounds = certificate_bounds }
