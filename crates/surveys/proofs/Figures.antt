-- The worked example, computed.
use Rattle.std.proofs.Common.{refl}
use Rattle.terms.specs.Meaning.{distance}
use Rattle.surveys.specs.Example.{WorkedExample}

pub worked : WorkedExample
unfolding distance
worked = record {
  highs_touch = refl;
  ceilings = refl;
  left_touches = refl;
  settled_with_five = refl;
  told_then = refl;
  settled_at_50 = refl;
  run_settles = refl;
  run_stops = refl;
  refusals = refl;
}
