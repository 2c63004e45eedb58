use Rattle.std.proofs.Common.{◌≡◌, ℕ, ◌+◌, ◌*◌, sym, ap, ◌∙◌, subst, arith, w16, w32, SFits, rules}
use Rattle.std.proofs.lemmas.Int.{to_z-of_z}
use Rattle.fields.specs.Bits.{Stored, complement_of}
use Rattle.fields.proofs.Writes.{Wrote, wrote_more}
use Rattle.certificates.proofs.writer.write_touch.Goals as goal

pub returns : goal.returns
returns c = λ f small says old before.
    let a : ℕ = 98 + 28 * c.args.place in
    let fit : SFits w32 c.from-2.result = search rules in
    let narrow : SFits w16 c.args.touch.height = search rules in
    let position = subst (Stored c.args.buf.now c.put.new.buf a 12) (c.from.ensures ∙ sym says.position) (simp (c.position_at.ensures.at, c.position_at.ensures.width) at c.put.ensures.stored) in
    let height = subst (Stored c.put.new.buf c.put_signed.new.buf (a + 12) 16) (ap (complement_of 16) (to_z-of_z w32 c.from-2.result fit ∙ c.from-2.ensures ∙ to_z-of_z w16 c.args.touch.height narrow) ∙ sym says.height) (simp (c.height_at.ensures.at, c.height_at.ensures.width) at c.put_signed.ensures) in
    let e : a + 12 + 16 ≡ 98 + 28 * (c.args.place + 1) = omega arith in
    subst (λ n. Wrote f n old c.put_signed.new.buf) e (wrote_more f small (a + 12) 16 old c.put.new.buf c.put_signed.new.buf (wrote_more f small a 12 old c.args.buf.now c.put.new.buf before position) height)
