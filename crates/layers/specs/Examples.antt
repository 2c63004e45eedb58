-- Worked examples of the layers, as one fact of their definitions.
use Rattle.std.specs.Prelude.{◌≡◌, pos, negsuc}
use Rattle.layers.specs.Layers.{coarse_height, sum_height, sum_slope}

pub record LayerExamples : Type 0 where
  -- coarse 10 of -1 is -10
  pub coarse_goes_down : coarse_height 10 (negsuc 0) ≡ negsuc 9
  -- coarse 10 of 19 is 10
  pub coarse_cuts : coarse_height 10 (pos 19) ≡ pos 10
  -- coarse 7 keeps -20,000, which is no multiple of 7
  pub coarse_keeps_lowest : coarse_height 7 (negsuc 19999) ≡ negsuc 19999
  -- the sum of 15,000 and 9,000 is 20,000
  pub sum_stays_in_range : sum_height (pos 15000) (pos 9000) ≡ pos 20000
  -- slopes 30,000 and 20,000 give 40,000
  pub slopes_stay_in_range : sum_slope 30000 20000 ≡ 40000
