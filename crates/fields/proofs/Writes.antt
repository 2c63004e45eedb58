-- Fields stored one after another are the packed fields.
use Rattle.std.proofs.Common.{◌≡◌, ℕ, ◌+◌, ◌-◌, ◌*◌, ◌/◌, ◌%◌, ◌^◌, ◌<◌, ◌≤◌, List, ◌++◌, length, get_or, take, drop, sym, refl, ap, ◌∙◌, subst, ⊎_elim, zero-add, arith}
use Rattle.std.proofs.lemmas.List.{take-append-drop, get_or-take, length-take-le}
use Rattle.std.proofs.lemmas.Bool.{cases_lt}
use Rattle.fields.specs.Bits.{bit, num, field_of, Field, width_of, bits_of, packed, Fit, Reads, Stored}
use Rattle.fields.proofs.Laws.{num-bit, bit_lt, same_bytes}
use Rattle.fields.proofs.Packs.{bits_of_lt, bits_of_past, reads_from_bits, length-packed, bit-packed, packed_bytes}
use Rattle.fields.proofs.Puts.{drop-later}

-- the first a bits of f are written over old
pub record Wrote (f : ℕ → ℕ) (a : ℕ) (old new : List ℕ) : Type 0 where
  pub bits : (i : ℕ) → i < a → bit new i ≡ f i
  pub pad : (i : ℕ) → a ≤ i → i < 8 * ((a + 7) / 8) → bit new i ≡ 0
  pub after : drop ((a + 7) / 8) new ≡ drop ((a + 7) / 8) old

pub wrote_none : (f : ℕ → ℕ) (old : List ℕ) → Wrote f 0 old old
wrote_none f old = record { bits = λ i l. absurd (omega arith); pad = λ i l m. absurd (omega arith); after = refl }

pub wrote_more : (f : ℕ → ℕ) → ((i : ℕ) → f i < 2) → (a w : ℕ) (old mid new : List ℕ) → Wrote f a old mid → Stored mid new a w (num f a w) → Wrote f (a + w) old new
unfolding field_of
wrote_more f small a w old mid new h s = record {
  bits = λ i l.
      ⊎_elim
      (λ b. s.before i b ∙ h.bits i b)
      (λ b.
      let e : a + (i - a) ≡ i = omega arith in
      ap (bit new) (sym e) ∙ sym (num-bit (bit new) (bit_lt new) a w (i - a) (omega arith))
      ∙ ap (λ v. v / 2 ^ (w - 1 - (i - a)) % 2) s.stored
      ∙ num-bit f small a w (i - a) (omega arith) ∙ ap f e)
      (cases_lt i a);
  pad = s.pad;
  after = s.after ∙ drop-later mid old ((a + 7) / 8) ((a + w + 7) / 8) (omega arith) h.after;
}

-- fields read out of their own bits
pub reads_own : (fs : List Field) → Fit fs → Reads (bits_of fs) 0 fs
reads_own fs fit = reads_from_bits (bits_of fs) 0 fs fit (λ i. ap (bits_of fs) (zero-add i))

pub wrote_all : (fs : List Field) (old new : List ℕ) → ((i : ℕ) → get_or new i 0 < 256) → (width_of fs + 7) / 8 ≤ length new → Wrote (bits_of fs) (width_of fs) old new
    → new ≡ packed fs ++ drop ((width_of fs + 7) / 8) old
wrote_all fs old new small room h =
    let n : ℕ = (width_of fs + 7) / 8 in
    let long : length (take n new) ≡ n = length-take-le n new room in
    let front : take n new ≡ packed fs =
    same_bytes (take n new) (packed fs) (long ∙ sym (length-packed fs))
    (λ i l. rw (get_or-take n new i 0 (omega arith)) (small i)) (packed_bytes fs)
    (λ i l.
    let e = get_or-take n new (i / 8) 0 (omega arith) in
    ap (λ y. y / 2 ^ (7 - i % 8) % 2) e
    ∙ ⊎_elim (λ b. h.bits i b) (λ b. h.pad i b (omega arith) ∙ sym (bits_of_past fs i b)) (cases_lt i (width_of fs))
    ∙ sym (bit-packed fs i)) in
    sym (take-append-drop n new) ∙ ap (λ x. x ++ drop n new) front ∙ ap (λ x. packed fs ++ x) h.after

-- what was there before an earlier part was written
pub wrote_from : (f : ℕ → ℕ) (m a : ℕ) (old mid new : List ℕ) → m ≤ a → Wrote f m old mid → Wrote f a mid new → Wrote f a old new
wrote_from f m a old mid new l p q = record { bits = q.bits; pad = q.pad; after = q.after ∙ drop-later mid old ((m + 7) / 8) ((a + 7) / 8) (omega arith) p.after }

pub wrote_here : (f : ℕ → ℕ) (a : ℕ) (old new : List ℕ) → Wrote f a old new → Wrote f a new new
wrote_here f a old new h = record { bits = h.bits; pad = h.pad; after = refl }

pub wrote_field : (fs : List Field) (a w value : ℕ) (old mid new : List ℕ) → num (bits_of fs) a w ≡ value → Wrote (bits_of fs) a old mid → Stored mid new a w value → Wrote (bits_of fs) (a + w) old new
wrote_field fs a w value old mid new e h s = wrote_more (bits_of fs) (bits_of_lt fs) a w old mid new h (subst (Stored mid new a w) (sym e) s)
