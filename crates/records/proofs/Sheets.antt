-- Each lawful sheet has one record.
use Rattle.std.proofs.Common.{◌≡◌, ℕ, zero, suc, ◌+◌, ◌-◌, ◌*◌, ◌/◌, ◌%◌, ◌^◌, ◌<◌, ◌≤◌, true, false, not, List, [], ◌∷◌, map, length, get_or, ℤ, pos, negsuc, is_ok, Ok, sym, refl, ap, ◌∙◌, subst, ⊎_elim, arith}
use native.Mathlib.Nat.{zero-div}
use Rattle.std.specs.List.{range_with_len}
use Rattle.std.proofs.lemmas.List.FromFn.{fill_by_all}
use Rattle.std.proofs.lemmas.Int.{ints}
use Rattle.std.proofs.lemmas.Bool.{both_ways, cases_Bool, cases_lt, le-ltb, eq-eqb, eqb-true, ne_eqb, not-false}
use Rattle.heights.specs.Heights.{height_at, marked, allowed}
use Rattle.heights.specs.Verdicts.{line_verdict, heights_verdict, name_verdict}
use Rattle.heights.proofs.Lowest.{none_lowest}
use Rattle.heights.proofs.Pairs.{ranged}
use Rattle.terms.specs.Meaning.{Height}
use Rattle.heights.proofs.Verdicts.{Passed, sheet_ok, both_ok, ok_both, ok_is}
use Rattle.fields.specs.Bits.{bit, num, field_of, width_of, bits_of, Fit, Reads, signed_of, complement_of, FitsSigned}
use Rattle.fields.proofs.Laws.{bit_lt, num_lt, num-bit}
use Rattle.fields.proofs.Packs.{packed_reads, packed_only, packed_bytes, length-packed, bit-packed, bit_past, bits_of_past}
use Rattle.fields.proofs.Writes.{reads_own}
use Rattle.fields.proofs.Signs.{complement_lt, signed_complement, complement_signed}
use Rattle.records.specs.Sheet.{Sheet, sheet_with, last_of, slope_of, slack_of, height_of, heights_of, sheet_of, height_field, fields_of, record_of}
use Rattle.records.specs.Verdict.{shape_verdict, record_verdict, verdict_of}
use Rattle.records.specs.Laws.{Accepted, accepted, sheet_passes}
use Rattle.records.specs.Theorem.{OneRecordEach, Bytes}
use Rattle.records.proofs.Heights.{length_heights}

pub fit_heights : (hs : List ℤ) → Fit (map height_field hs)
fit_heights [] = tt
fit_heights (h ∷ hs) = (complement_lt 16 h, fit_heights hs)

pub width_heights : (hs : List ℤ) → width_of (map height_field hs) ≡ 16 * length hs
width_heights [] = refl
width_heights (h ∷ hs) = omega (arith, width_heights hs)

-- the heights of fields that read
pub heights_read : (b : ℕ → ℕ) (a : ℕ) (hs : List ℤ) → Reads b a (map height_field hs) → (p : ℕ) → p < length hs → num b (a + 16 * p) 16 ≡ complement_of 16 (get_or hs p (pos 0))
heights_read b a [] r p l = absurd (omega arith)
heights_read b a (h ∷ hs) r zero l = let e : a + 16 * 0 ≡ a = omega arith in ap (λ k. num b k 16) e ∙ r.0
heights_read b a (h ∷ hs) r (suc p) l =
    let e : a + 16 * suc p ≡ a + 16 + 16 * p = omega arith in
    ap (λ k. num b k 16) e ∙ heights_read b (a + 16) hs r.1 p (omega arith)

-- a height that may stand in a list fits its field
range_fits : (h : ℤ) → Height h → FitsSigned 16 h
range_fits (pos n) r = omega (arith, ints, r.high)
range_fits (negsuc n) r = omega (arith, ints, r.low)

mark_fits : (h : ℤ) → marked h ≡ true → FitsSigned 16 h
mark_fits (pos n) m = absurd (both_ways false refl m)
mark_fits (negsuc n) m = let e = eqb-true n 32767 m in omega arith

allowed_fits : (h : ℤ) → allowed h ≡ true → FitsSigned 16 h
allowed_fits h a = ⊎_elim (λ m. mark_fits h m) (λ m. range_fits h (ranged h a m)) (cases_Bool (marked h))

same_sheet : (s : Sheet) (a b : ℕ) (hs : List ℤ) → a ≡ s.slope → b ≡ s.slack → hs ≡ s.heights → record { slope = a; slack = b; heights = hs } ≡ s
same_sheet s a b hs p q r = rw (p, q, r)

-- zero bits write 0
num_zero : (f : ℕ → ℕ) (a w : ℕ) → ((i : ℕ) → a ≤ i → f i ≡ 0) → num f a w ≡ 0
num_zero f a zero h = refl
num_zero f a (suc w) h = omega (arith, num_zero f a w h, h (a + w) (omega arith))

module _ (s : Sheet) (h : verdict_of s ≡ Ok tt) where
  passed : Passed s.slope s.slack s.heights
  passed = sheet_ok s.slope s.slack s.heights (ap is_ok h)

  fit : Fit (fields_of s)
  fit = let t = passed.line in (omega (arith, t.last_most), (omega (arith, t.slope_most), (omega (arith, t.slack_most), fit_heights s.heights)))

  reads : Reads (bit (record_of s)) 0 (fields_of s)
  unfolding record_of
  reads = packed_reads (fields_of s) fit

  last_is : last_of (record_of s) ≡ length s.heights - 1
  unfolding field_of
  last_is = reads.0

  count_of : last_of (record_of s) + 1 ≡ length s.heights
  count_of = omega (arith, last_is, passed.line.last_least)

  fits_at : (p : ℕ) → p < length s.heights → FitsSigned 16 (height_at s.heights p)
  fits_at p l = allowed_fits (height_at s.heights p) (not-false _ (none_lowest (λ k. not (allowed (height_at s.heights k))) 0 (length s.heights) passed.ranged p (omega arith) (omega arith)))

  height_is : (p : ℕ) → p < length s.heights → height_of (record_of s) p ≡ get_or s.heights p (pos 0)
  unfolding field_of
  height_is p l =
      ap (signed_of 16) (heights_read (bit (record_of s)) 44 s.heights reads.1.1.1 p l)
      ∙ signed_complement 16 (get_or s.heights p (pos 0)) (omega arith) (fits_at p l)

  heights_are : heights_of (record_of s) (last_of (record_of s) + 1) ≡ s.heights
  heights_are =
      ap (heights_of (record_of s)) count_of
      ∙ sym (fill_by_all (height_of (record_of s)) s.heights (length s.heights) (pos 0) refl (λ k l. sym (height_is k l)))

  slope_is : slope_of (record_of s) ≡ s.slope
  unfolding field_of
  slope_is = reads.1.0

  slack_is : slack_of (record_of s) ≡ s.slack
  unfolding field_of
  slack_is = reads.1.1.0

  reads_back : sheet_of (record_of s) ≡ s
  unfolding sheet_of
  reads_back = same_sheet s _ _ _ slope_is slack_is heights_are

  size : length (record_of s) ≡ 6 + 2 * (last_of (record_of s) + 1)
  unfolding record_of
  size = length-packed (fields_of s) ∙ omega (arith, count_of, width_heights s.heights)

  pad : field_of (record_of s) (44 + 16 * (last_of (record_of s) + 1)) 4 ≡ 0
  unfolding record_of field_of
  pad = num_zero (bit (record_of s)) (44 + 16 * (last_of (record_of s) + 1)) 4 (λ i l. bit-packed (fields_of s) i ∙ bits_of_past (fields_of s) i (omega (arith, count_of, width_heights s.heights)))

  parts : (is_ok (line_verdict (length s.heights - 1) s.slope s.slack) ≡ true) × (is_ok (heights_verdict s.slope s.slack s.heights) ≡ true)
  parts = both_ok (line_verdict (length s.heights - 1) s.slope s.slack) (heights_verdict s.slope s.slack s.heights) (ap is_ok h)

  line_passes : is_ok (line_verdict (last_of (record_of s)) (slope_of (record_of s)) (slack_of (record_of s))) ≡ true
  line_passes = rw (last_is, slope_is, slack_is) parts.0

  heights_pass : is_ok (heights_verdict (slope_of (record_of s)) (slack_of (record_of s)) (heights_of (record_of s) (last_of (record_of s) + 1))) ≡ true
  heights_pass = rw (slope_is, slack_is, heights_are) parts.1

  shape_passes : is_ok (shape_verdict (record_of s) (last_of (record_of s))) ≡ true
  shape_passes = let a = eq-eqb _ _ size in let b = eq-eqb _ _ pad in rw (a, b) refl

  record_passes : (name : ℕ) → 0 < name → record_verdict (record_of s) name ≡ Ok tt
  record_passes name l =
      let n : is_ok (name_verdict name) ≡ true = let e = ne_eqb name 0 (λ z. omega arith) in rw e refl in
      let t = le-ltb (length (record_of s)) 6 (omega (arith, size)) in
      rw t (ok_is _ (ok_both (line_verdict (last_of (record_of s)) (slope_of (record_of s)) (slack_of (record_of s))) _ line_passes
      (ok_both (shape_verdict (record_of s) (last_of (record_of s))) _ shape_passes
      (ok_both (heights_verdict (slope_of (record_of s)) (slack_of (record_of s)) (heights_of (record_of s) (last_of (record_of s) + 1))) (name_verdict name) heights_pass n))))

  record_bytes : Bytes (record_of s)
  unfolding record_of
  record_bytes = packed_bytes (fields_of s)

-- the fields of what bytes say read, where the bits after them are 0
reads_heights : (b : List ℕ) (a n : ℕ) → ((i : ℕ) → 44 + 16 * (a + n) ≤ i → bit b i ≡ 0) → Reads (bit b) (44 + 16 * a) (map height_field (map (height_of b) (range_with_len a n)))
unfolding field_of
reads_heights b a zero pad = λ i l. pad i (omega arith)
reads_heights b a (suc n) pad =
    let e : 44 + 16 * a + 16 ≡ 44 + 16 * (a + 1) = omega arith in (
      sym (complement_signed 16 (num (bit b) (44 + 16 * a) 16) (omega arith) (num_lt (bit b) (bit_lt b) (44 + 16 * a) 16)),
      subst (λ k. Reads (bit b) k (map height_field (map (height_of b) (range_with_len (a + 1) n)))) (sym e) (reads_heights b (a + 1) n (λ i l. pad i (omega arith))),
    )

pad_bits : (b : List ℕ) (a w : ℕ) → 8 * length b ≡ a + w → field_of b a w ≡ 0 → (i : ℕ) → a ≤ i → bit b i ≡ 0
unfolding field_of
pad_bits b a w e z i l =
    ⊎_elim
    (λ s. let g : a + (i - a) ≡ i = omega arith in
    ap (bit b) (sym g) ∙ sym (num-bit (bit b) (bit_lt b) a w (i - a) (omega arith)) ∙ ap (λ v. v / 2 ^ (w - 1 - (i - a)) % 2) z ∙ ap (λ v. v % 2) (zero-div (2 ^ (w - 1 - (i - a)))))
    (λ s. bit_past b i (omega arith))
    (cases_lt i (a + w))

module _ (b : List ℕ) (name : ℕ) (h : record_verdict b name ≡ Ok tt) where
  kept : Accepted b name
  kept = accepted b name (ap is_ok h)

  count_is : length (heights_of b (last_of b + 1)) ≡ last_of b + 1
  count_is = length_heights b (last_of b + 1)

  says : Reads (bit b) 0 (fields_of (sheet_of b))
  unfolding sheet_of field_of
  says = (omega (arith, count_is), (refl, (refl, reads_heights b 0 (last_of b + 1) (λ i l. pad_bits b (44 + 16 * (last_of b + 1)) 4 (omega (arith, kept.size)) kept.pad i (omega arith)))))

  only : Bytes b → b ≡ record_of (sheet_of b)
  unfolding record_of sheet_of
  only bytes = packed_only (fields_of (sheet_of b)) b bytes (omega (arith, kept.size, count_is, width_heights (heights_of b (last_of b + 1)))) says

  says_lawful : verdict_of (sheet_of b) ≡ Ok tt
  unfolding sheet_of
  says_lawful = ok_is _ (sheet_passes b name kept)

pub one_record_each : OneRecordEach
one_record_each = record {
  accepted = λ s name h l. (record_bytes s h, record_passes s h name l);
  reads_back = λ s h. reads_back s h;
  lawful = λ b name h. says_lawful b name h;
  only = λ s b name bytes h e. only b name h bytes ∙ ap record_of e;
}

pub own_reads : (slope slack : ℕ) (hs : List ℤ) → slope < 65536 → slack < 65536 → length hs < 4097 → Reads (bits_of (fields_of (sheet_with slope slack hs))) 0 (fields_of (sheet_with slope slack hs))
own_reads slope slack hs a b c = reads_own (fields_of (sheet_with slope slack hs)) (omega arith, (a, (b, fit_heights hs)))
