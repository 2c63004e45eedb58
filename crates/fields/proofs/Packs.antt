-- Packed fields read back, and are the only bytes that do.
use Rattle.std.proofs.Common.{◌≡◌, ℕ, ◌+◌, ◌-◌, ◌*◌, ◌/◌, ◌%◌, ◌^◌, ◌<◌, ◌≤◌, List, [], ◌∷◌, ◌++◌, length, get_or, sym, refl, ap, ◌∙◌, ⊎_elim, add_assoc, zero-add, arith}
use native.Mathlib.Nat.{zero-div}
use Rattle.std.proofs.lemmas.Nat.{mod_below}
use Rattle.std.proofs.lemmas.Bool.{lt-ltb, le-ltb, cases_lt}
use Rattle.std.proofs.lemmas.List.FromFn.{get_or-map-range_with_len, length-map-range_with_len}
use Rattle.std.proofs.lemmas.List.{get_or_past}
use Rattle.fields.specs.Bits.{bit, num, Field, width_of, bits_of, packed, Fit, Reads}
use Rattle.fields.proofs.Laws.{num-value, num-bit, num_lt, bit_lt, bit_bytes_of, same_bytes}

pub bits_of_lt : (fs : List Field) (i : ℕ) → bits_of fs i < 2
bits_of_lt [] i = omega arith
bits_of_lt (f ∷ fs) i =
    ⊎_elim (λ l. rw (lt-ltb i f.width l) (mod_below _ 2 (omega arith))) (λ l. rw (le-ltb i f.width l) (bits_of_lt fs (i - f.width))) (cases_lt i f.width)

-- the bits of the first field, and those after it
pub bits_of_first : (f : Field) (fs : List Field) (k : ℕ) → k < f.width → bits_of (f ∷ fs) k ≡ f.value / 2 ^ (f.width - 1 - k) % 2
bits_of_first f fs k l = rw (lt-ltb k f.width l)

pub bits_of_rest : (f : Field) (fs : List Field) (k : ℕ) → bits_of (f ∷ fs) (f.width + k) ≡ bits_of fs k
bits_of_rest f fs k =
    let l : f.width ≤ f.width + k = omega arith in
    let e : f.width + k - f.width ≡ k = omega arith in
    rw (le-ltb (f.width + k) f.width l, e)

-- one field out of the middle of many
pub bits_of_after : (fs gs : List Field) (k : ℕ) → bits_of (fs ++ gs) (width_of fs + k) ≡ bits_of gs k
bits_of_after [] gs k = ap (bits_of gs) (zero-add k)
bits_of_after (f ∷ fs) gs k =
    let e : f.width + width_of fs + k ≡ f.width + (width_of fs + k) = omega arith in
    ap (bits_of (f ∷ (fs ++ gs))) e ∙ bits_of_rest f (fs ++ gs) (width_of fs + k) ∙ bits_of_after fs gs k

pub read_back : (fs : List Field) (f : Field) (gs : List Field) → f.value < 2 ^ f.width → num (bits_of (fs ++ f ∷ gs)) (width_of fs) f.width ≡ f.value
read_back fs f gs small =
    num-value (bits_of (fs ++ f ∷ gs)) (width_of fs) f.width f.value small (λ k l. bits_of_after fs (f ∷ gs) k ∙ bits_of_first f gs k l)

-- a bit function that reads as the fields has the fields' bits
pub bits_from_reads : (b : ℕ → ℕ) → ((i : ℕ) → b i < 2) → (a : ℕ) (fs : List Field) → Reads b a fs → (i : ℕ) → b (a + i) ≡ bits_of fs i
bits_from_reads b h a [] r i = r (a + i) (omega arith)
bits_from_reads b h a (f ∷ fs) r i =
    ⊎_elim
    (λ l. rw (lt-ltb i f.width l) (sym (num-bit b h a f.width i l) ∙ ap (λ v. v / 2 ^ (f.width - 1 - i) % 2) r.0))
    (λ l. let e : a + i ≡ a + f.width + (i - f.width) = omega arith in
    rw (le-ltb i f.width l) (ap b e ∙ bits_from_reads b h (a + f.width) fs r.1 (i - f.width)))
    (cases_lt i f.width)

-- the fields' bits read as the fields
pub reads_from_bits : (b : ℕ → ℕ) (a : ℕ) (fs : List Field) → Fit fs → ((i : ℕ) → b (a + i) ≡ bits_of fs i) → Reads b a fs
reads_from_bits b a [] fit h = λ i l. let e : a + (i - a) ≡ i = omega arith in ap b (sym e) ∙ h (i - a)
reads_from_bits b a (f ∷ fs) fit h = (
  num-value b a f.width f.value fit.0 (λ k l. h k ∙ bits_of_first f fs k l),
  reads_from_bits b (a + f.width) fs fit.1 (λ i. ap b (add_assoc a f.width i) ∙ h (f.width + i) ∙ bits_of_rest f fs i),
)

-- past the last byte each bit is 0
pub bit_past : (bs : List ℕ) (i : ℕ) → 8 * length bs ≤ i → bit bs i ≡ 0
bit_past bs i l = let e = get_or_past bs (i / 8) 0 (omega arith) in rw e (ap (λ v. v % 2) (zero-div (2 ^ (7 - i % 8))))

pub length-packed : (fs : List Field) → length (packed fs) ≡ (width_of fs + 7) / 8
unfolding packed
length-packed fs = length-map-range_with_len (λ i. num (bits_of fs) (8 * i) 8) 0 ((width_of fs + 7) / 8)

pub bits_of_past : (fs : List Field) (i : ℕ) → width_of fs ≤ i → bits_of fs i ≡ 0
bits_of_past [] i l = refl
bits_of_past (f ∷ fs) i l = rw (le-ltb i f.width (omega arith)) (bits_of_past fs (i - f.width) (omega arith))

pub bit-packed : (fs : List Field) (i : ℕ) → bit (packed fs) i ≡ bits_of fs i
unfolding packed
bit-packed fs i =
    ⊎_elim
    (λ l. bit_bytes_of (bits_of fs) (bits_of_lt fs) ((width_of fs + 7) / 8) i l)
    (λ l. bit_past (packed fs) i (rw length-packed l) ∙ sym (bits_of_past fs i (omega arith)))
    (cases_lt i (8 * ((width_of fs + 7) / 8)))

pub packed_bytes : (fs : List Field) (i : ℕ) → get_or (packed fs) i 0 < 256
unfolding packed
packed_bytes fs i =
    ⊎_elim
    (λ l. rw (get_or-map-range_with_len (λ j. num (bits_of fs) (8 * j) 8) 0 ((width_of fs + 7) / 8) i i 0 l (omega arith)) (num_lt (bits_of fs) (bits_of_lt fs) (8 * i) 8))
    (λ l. rw (get_or_past (packed fs) i 0 (rw length-packed l)) (omega arith))
    (cases_lt i ((width_of fs + 7) / 8))

-- packed fields read back
pub packed_reads : (fs : List Field) → Fit fs → Reads (bit (packed fs)) 0 fs
packed_reads fs fit = reads_from_bits (bit (packed fs)) 0 fs fit (λ i. ap (bit (packed fs)) (zero-add i) ∙ bit-packed fs i)

-- and no other bytes of that length do
pub packed_only : (fs : List Field) (bs : List ℕ) → ((i : ℕ) → get_or bs i 0 < 256) → length bs ≡ (width_of fs + 7) / 8 → Reads (bit bs) 0 fs → bs ≡ packed fs
packed_only fs bs small e r =
    same_bytes bs (packed fs) (e ∙ sym (length-packed fs)) (λ i l. small i) (packed_bytes fs)
    (λ i l. ap (bit bs) (sym (zero-add i)) ∙ bits_from_reads (bit bs) (bit_lt bs) 0 fs r i ∙ sym (bit-packed fs i))
