-- The fields of a certificate fit, and those before the touches are written one after another.
use Rattle.std.proofs.Common.{ℕ, ◌<◌, List, length}
use Rattle.fields.specs.Bits.{Field, bits_of, Fit, Reads, Stored, complement_of}
use Rattle.fields.proofs.Signs.{complement_lt}
use Rattle.fields.proofs.Writes.{Wrote, wrote_none, wrote_field, reads_own}
use Rattle.caps.specs.declared.Touch.{Touch}
use Rattle.caps.specs.declared.Line.{Line}
use Rattle.caps.specs.declared.Outlook.{Outlook}
use Rattle.certificates.specs.Layout.{touch_fields, certificate_fields}

-- the numbers before the touches fit their widths
pub record HeadFits (line : Line) (tolerance count : ℕ) (seen : Outlook) : Type 0 where
  pub last : line.last < 4096
  pub slope : line.slope < 65536
  pub slack : line.slack < 65536
  pub tolerated : tolerance < 65536
  pub counted : count < 512
  pub floor : seen.floor.position < 4096

-- what the fields read as before the touches, whatever the touches are
module _ (line : Line) (tolerance : ℕ) (ts : List Touch) (seen : Outlook) (fits : HeadFits line tolerance (length ts) seen) (touches : Fit (touch_fields ts)) where
  pub all_fit : Fit (certificate_fields line tolerance ts seen)
  all_fit = (fits.last, (fits.slope, (fits.slack, (fits.tolerated, (fits.counted, (fits.floor, (complement_lt 17 seen.ceiling, touches)))))))

  pub own : Reads (bits_of (certificate_fields line tolerance ts seen)) 0 (certificate_fields line tolerance ts seen)
  own = reads_own (certificate_fields line tolerance ts seen) all_fit

  pub head_wrote : (a b c d e f g h : List ℕ) → Stored a b 0 12 line.last → Stored b c 12 16 line.slope → Stored c d 28 16 line.slack → Stored d e 44 16 tolerance
      → Stored e f 60 9 (length ts) → Stored f g 69 12 seen.floor.position → Stored g h 81 17 (complement_of 17 seen.ceiling) → Wrote (bits_of (certificate_fields line tolerance ts seen)) 98 a h
  head_wrote a b c d e f g h p q r s t u v =
      let fs : List Field = certificate_fields line tolerance ts seen in
      let w1 = wrote_field fs 0 12 line.last a a b own.0 (wrote_none (bits_of fs) a) p in
      let w2 = wrote_field fs 12 16 line.slope a b c own.1.0 w1 q in
      let w3 = wrote_field fs 28 16 line.slack a c d own.1.1.0 w2 r in
      let w4 = wrote_field fs 44 16 tolerance a d e own.1.1.1.0 w3 s in
      let w5 = wrote_field fs 60 9 (length ts) a e f own.1.1.1.1.0 w4 t in
      let w6 = wrote_field fs 69 12 seen.floor.position a f g own.1.1.1.1.1.0 w5 u in
      wrote_field fs 81 17 (complement_of 17 seen.ceiling) a g h own.1.1.1.1.1.1.0 w6 v
