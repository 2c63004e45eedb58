use Rattle.caps.proofs.Figures.{figures}
use Rattle.layers.proofs.Shown.{layer_examples}
use Rattle.records.proofs.Shown.{record_examples}
use Rattle.surveys.proofs.Figures.{worked}
use Rattle.worked.proofs.are_shown.Goals as goal

pub returns : goal.returns
returns c = record { envelope = figures; survey = worked; records = record_examples; layers = layer_examples }
