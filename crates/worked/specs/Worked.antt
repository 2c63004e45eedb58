-- The worked examples, all together.
use Rattle.caps.specs.Figures.{Figures}
use Rattle.layers.specs.Examples.{LayerExamples}
use Rattle.records.specs.Examples.{RecordExamples}
use Rattle.surveys.specs.Example.{WorkedExample}

pub record WorkedExamples : Type 0 where
  -- the sheet of 11 heights by high and left: touches, floors, ceilings, gaps, settled; caps from all touches; the touch bound
  pub envelope : Figures
  -- the same sheet through the calls of a survey, with refusals and the stops of runs
  pub survey : WorkedExample
  -- the record of 10 bytes and its neighbours that are refused
  pub records : RecordExamples
  -- heights rounded down, heights and slopes added within their limits
  pub layers : LayerExamples
