use Rattle.std.proofs.Common.{◌≡◌, subst, arith}
use Rattle.fields.specs.Bits.{bit, field_of}
use Rattle.fields.proofs.Laws.{num-value}
use Rattle.fields.proofs.Puts.{Put, put_more}
use Rattle.fields.proofs.Packs.{packed_reads, packed_only}
use Rattle.fields.proofs.Field.put.Goals as goal

pub loop-k-preserved : goal.loop-k-preserved
loop-k-preserved c = simp c.put_bit.ensures (put_more _ _ _ _ _ _ c.loop-k.invariant _ c.bit_of.ensures.is (omega arith))

pub returns : goal.returns
unfolding field_of
returns c =
    let e : c.loop-k.k ≡ c.args.self.width = omega arith in
    let h = subst (λ n. Put c.args.buf.now c.args.self.at c.args.self.width c.args.value n c.loop-k.buf) e c.loop-k.invariant in
    record { stored = record { stored = num-value (bit c.loop-k.buf) c.args.self.at c.args.self.width c.args.value (omega arith) h.written; before = h.before; pad = λ i l m. h.pad i l m (omega arith); after = h.after }; packing = record { reads_back = packed_reads; only = packed_only } }
