use Rattle.std.proofs.Common.{◌≡◌, length, vec_items, vec_len}
use Rattle.texts.specs.Words.{words}
use Rattle.texts.specs.Said.{heights_said}
use Rattle.texts.proofs.Heights.{onto}
use Rattle.texts.proofs.sheet.read_heights.Given as goal

abbrev pub invariant-loop-word : goal.invariant-loop-word
invariant-loop-word l = heights_said 0 (words l.text) ≡ onto (vec_items l.heights) (heights_said (vec_len l.heights) (words l.rest))

abbrev pub decreases-loop-word : goal.decreases-loop-word
decreases-loop-word l = length l.rest
