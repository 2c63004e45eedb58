-- The worked examples compute.
use Rattle.std.proofs.Common.{refl}
use Rattle.terms.specs.Meaning.{distance}
use Rattle.caps.specs.Figures.{Figures}

pub figures : Figures
unfolding distance
figures = record {
  first = refl;
  second = refl;
  third = refl;
  fourth = refl;
  fifth = refl;
  fifth_settles = refl;
  fourth_does_not = refl;
  gaps_then = refl;
  largest_then = refl;
  open_then = refl;
  place_then = refl;
  settled_at_50 = refl;
  open_at_49 = refl;
  caps_from_all = refl;
  ceiling_from_all = refl;
  spacing_at_9 = refl;
  most_at_9 = refl;
  spacing_at_10 = refl;
  most_at_10 = refl;
}
