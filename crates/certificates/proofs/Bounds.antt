-- What a certificate says of the sheet.
use Rattle.std.proofs.Common.{◌≡◌, true, ◌∷◌, ℤ, ◌≤ℤ◌, refl, arith}
use lib.Signed.{le_z}
use Rattle.std.proofs.lemmas.Int.{ints}
use Rattle.terms.specs.Meaning.{distance}
use Rattle.caps.specs.Stretches.{whole}
use Rattle.caps.specs.Caps.{cap}
use Rattle.caps.proofs.Peaks.{top_above}
use Rattle.caps.proofs.Proved.{laws_of_caps}
use Rattle.surveys.proofs.Later.{heights_under_ceiling}
use Rattle.certificates.specs.Theorem.{CertificateBounds}

under : (a b : ℤ) → le_z a b ≡ true → a ≤ℤ b
under a b e = grind (arith, ints)

pub certificate_bounds : CertificateBounds
unfolding distance
certificate_bounds = record {
  no_sheet_above = λ line a ts lawful sheet possible x l.
      let s = laws_of_caps.no_sheet_above_a_cap line a ts lawful sheet possible x l in
      let t = top_above (cap line (a ∷ ts)) (whole line) x (omega arith) l in
      omega (arith, ints, s, t);
  near_the_floor = λ line a ts tolerance settled. under _ _ settled;
  no_height_above = heights_under_ceiling;
  thirty = refl;
  twenty_nine = refl;
}
