use Rattle.std.proofs.Common.{◌≡◌, ℕ, ◌+◌, ◌-◌, ◌*◌, ◌/◌, ◌%◌, ◌^◌, ◌<◌, sym, ap, ◌∙◌, subst, arith}
use lib.Bits.{bit_and}
use Rattle.std.proofs.lemmas.Nat.{and_mask, one_shl}
use Rattle.fields.specs.Bits.{field_of}
use Rattle.fields.proofs.Laws.{field_slice, field_inside, field_lt}
use Rattle.fields.proofs.Field.read.Goals as goal

pub returns : goal.returns
returns c =
    let bs = c.args.bytes.now in
    let a : ℕ = c.args.self.at in
    let w : ℕ = c.args.self.width in
    let n : ℕ = a / 8 + c.div_ceil-count.result - a / 8 in
    let r : ℕ = 8 * c.div_ceil-count.result - a % 8 - w in
    let v : ℕ = c.whole_bytes-whole.result in
    let q : bit_and (v / 2 ^ r) ((1 * 2 ^ w) % 2 ^ 32 - 1) ≡ field_of bs a w =
    ap (λ x. bit_and (v / 2 ^ r) (x - 1)) (one_shl w 32 (omega arith)) ∙ and_mask (v / 2 ^ r) w
    ∙ ap (λ x. x / 2 ^ r % 2 ^ w) (c.whole_bytes-whole.ensures ∙ field_slice bs (a / 8) n (omega arith))
    ∙ field_inside bs (8 * (a / 8)) a (a % 8) w r (8 * n) (omega arith) (omega arith) in
    (q, subst (λ x. x < 2 ^ w) (sym q) (field_lt bs a w))
