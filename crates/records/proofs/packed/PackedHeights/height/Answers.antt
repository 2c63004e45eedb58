use Rattle.std.proofs.Common.{ℕ, ◌+◌, ◌<◌, sym, ◌∙◌, arith, w32, rules}
use Rattle.std.proofs.lemmas.Int.{to_z-of_z}
use Rattle.records.specs.Sheet.{last_of}
use Rattle.records.proofs.Heights.{length_heights, height_in}
use Rattle.records.proofs.packed.PackedHeights.height.Goals as goal

pub returns : goal.returns
returns c =
    let b = c.args.self.now.bytes.now in
    let n : ℕ = last_of b + 1 in
    let l : c.args.position < n = omega (arith, length_heights b n) in
    to_z-of_z w32 c.read_signed.result (search rules) ∙ (simp (c.height_at.ensures.at, c.height_at.ensures.width) at c.read_signed.ensures) ∙ sym (height_in b n c.args.position l)
