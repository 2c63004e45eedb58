use Rattle.std.proofs.Common.{◌≡◌, ℕ, ◌+◌, ◌-◌, ◌*◌, ◌/◌, ◌<◌, ◌≤◌, List, ◌++◌, length, get_or, drop, ℤ, pos, ap, ◌∙◌, subst, arith, w32, SFits, rules}
use Rattle.std.proofs.lemmas.Int.{to_z-of_z}
use Rattle.fields.specs.Bits.{Field, bits_of, width_of, Stored, complement_of}
use Rattle.fields.proofs.Writes.{Wrote, wrote_none, wrote_field, wrote_from, wrote_here, wrote_all}
use Rattle.records.specs.Sheet.{fields_of, sheet_with, record_of}
use Rattle.records.proofs.Sheets.{own_reads, heights_read, width_heights}
use Rattle.records.proofs.writer.write_fields.Goals as goal

module _ (m s : ℕ) (hs : List ℤ) (lm : m < 65536) (ls : s < 65536) (lh : length hs < 4097) where
  abbrev fields : List Field
  fields = fields_of (sheet_with m s hs)

  head : (a b c d : List ℕ) → Stored a b 0 12 (length hs - 1) → Stored b c 12 16 m → Stored c d 28 16 s → Wrote (bits_of fields) 44 a d
  head a b c d p q r =
      let w = own_reads m s hs lm ls lh in
      wrote_field fields 28 16 s a c d w.1.1.0
      (wrote_field fields 12 16 m a b c w.1.0 (wrote_field fields 0 12 (length hs - 1) a a b w.0 (wrote_none (bits_of fields) a) p) q) r

  next : (a b c : List ℕ) (p : ℕ) → p < length hs → Wrote (bits_of fields) (44 + 16 * p) a b → Stored b c (44 + 16 * p) 16 (complement_of 16 (get_or hs p (pos 0))) → Wrote (bits_of fields) (44 + 16 * (p + 1)) a c
  next a b c p l h t =
      let w = own_reads m s hs lm ls lh in
      let e : 44 + 16 * p + 16 ≡ 44 + 16 * (p + 1) = omega arith in
      subst (λ n. Wrote (bits_of fields) n a c) e (wrote_field fields (44 + 16 * p) 16 (complement_of 16 (get_or hs p (pos 0))) a b c (heights_read (bits_of fields) 44 hs w.1.1.1 p l) h t)

  all : (a b c : List ℕ) → ((i : ℕ) → get_or c i 0 < 256) → 6 + 2 * length hs ≤ length c → Wrote (bits_of fields) 44 a b → Wrote (bits_of fields) (44 + 16 * length hs) b c
      → c ≡ record_of (sheet_with m s hs) ++ drop (6 + 2 * length hs) a
  unfolding record_of
  all a b c small room p q =
      let e : 44 + 16 * length hs ≡ width_of fields = omega (arith, width_heights hs) in
      let n : (width_of fields + 7) / 8 ≡ 6 + 2 * length hs = omega arith in
      let h = subst (λ k. Wrote (bits_of fields) k a c) e (wrote_from (bits_of fields) 44 (44 + 16 * length hs) a b c (omega arith) p q) in
      wrote_all fields a c small (omega arith) h ∙ ap (λ k. record_of (sheet_with m s hs) ++ drop k a) n

pub loop-position-init : goal.loop-position-init
loop-position-init c = (
  wrote_here _ 44 c.args.buf.now _ (head c.args.slope c.args.slack c.args.heights.now (omega arith) (omega arith) (omega arith) c.args.buf.now _ _ _ c.put.ensures.stored c.put-2.ensures.stored c.put-3.ensures.stored),
  (λ i. (c.type_inv.buf i).fits),
)

pub loop-position-preserved : goal.loop-position-preserved
loop-position-preserved c =
    let f : SFits w32 (get_or c.args.heights.now c.loop-position.position (pos 0)) = search rules in (
      next c.args.slope c.args.slack c.args.heights.now (omega arith) (omega arith) (omega arith) _ _ _ c.loop-position.position (omega arith) c.loop-position.invariant.0 (simp (c.height_at.ensures.at, c.height_at.ensures.width, to_z-of_z) at c.put_signed.ensures),
      (λ i. (c.type_inv.buf i).fits),
    )

pub returns : goal.returns
returns c =
    let e : c.loop-position.position ≡ length c.args.heights.now = omega arith in
    let q = subst (λ k. Wrote (bits_of (fields_of (sheet_with c.args.slope c.args.slack c.args.heights.now))) (44 + 16 * k) c.put-3.new.buf c.loop-position.buf) e c.loop-position.invariant.0 in
    all c.args.slope c.args.slack c.args.heights.now (omega arith) (omega arith) (omega arith) c.args.buf.now c.put-3.new.buf c.loop-position.buf c.loop-position.invariant.1 (omega arith)
    (head c.args.slope c.args.slack c.args.heights.now (omega arith) (omega arith) (omega arith) c.args.buf.now _ _ _ c.put.ensures.stored c.put-2.ensures.stored c.put-3.ensures.stored) q
