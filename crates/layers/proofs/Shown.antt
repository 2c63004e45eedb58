-- The worked examples hold.
use Rattle.std.proofs.Common.{refl}
use Rattle.layers.specs.Examples.{LayerExamples}
use Rattle.layers.specs.Layers.{sum_height}

pub layer_examples : LayerExamples
unfolding sum_height
layer_examples = record { coarse_goes_down = refl; coarse_cuts = refl; coarse_keeps_lowest = refl; sum_stays_in_range = refl; slopes_stay_in_range = refl }
