-- What a record means as a gauge, and that an accepted record is lawful.
use Rattle.std.specs.Prelude.{◌≡◌, ℕ, ◌+◌, ◌-◌, ◌*◌, Bool, true, false, cond, List, length, is_ok, Ok, Err, ◌==◌, nat_lt, refl}
use Rattle.std.proofs.Common.{sym, subst, arith}
use Rattle.std.proofs.lemmas.List.FromFn.{length-map-range_with_len}
use Rattle.std.proofs.lemmas.Bool.{both_ways, eqb-true}
use Rattle.terms.specs.declared.refusal.Refusal.{Refusal}
use Rattle.terms.specs.declared.refusal.Refusal.TheVariants.{PadBitSet, RecordLengthWrong}
use Rattle.terms.specs.Meaning.{Meaning, Lawful}
use Rattle.heights.specs.Lists.{list_meaning}
use Rattle.heights.specs.Verdicts.{Verdict, line_verdict, heights_verdict, sheet_verdict, name_verdict}
use Rattle.heights.proofs.Verdicts.{Line, line_ok, both_ok, ok_both}
use Rattle.heights.proofs.Laws.{list_lawful}
use Rattle.fields.specs.Bits.{field_of}
use Rattle.records.specs.Sheet.{last_of, slope_of, slack_of, height_of, heights_of}
use Rattle.records.specs.Verdict.{record_verdict, shape_verdict}

-- the gauge of the heights that the bytes say
abbrev pub record_meaning : List ℕ → ℕ → Meaning
record_meaning b name = list_meaning (slope_of b) (slack_of b) (heights_of b (last_of b + 1)) name

unless_err : (t : Bool) (e : Refusal) (r : Verdict) → is_ok (cond t (Err e) r) ≡ true → (t ≡ false) × (is_ok r ≡ true)
unless_err true e r h = absurd (both_ways false refl h)
unless_err false e r h = (refl, h)

only_if : (t : Bool) (e : Refusal) (r : Verdict) → is_ok (cond t r (Err e)) ≡ true → (t ≡ true) × (is_ok r ≡ true)
only_if true e r h = (refl, h)
only_if false e r h = absurd (both_ways false refl h)

-- what an accepted record's bytes keep
pub record Accepted (b : List ℕ) (name : ℕ) : Type 0 where
  pub line_passes : is_ok (line_verdict (last_of b) (slope_of b) (slack_of b)) ≡ true
  pub line : Line (last_of b) (slope_of b) (slack_of b)
  pub size : length b ≡ 6 + 2 * (last_of b + 1)
  pub pad : field_of b (44 + 16 * (last_of b + 1)) 4 ≡ 0
  pub heights_pass : is_ok (heights_verdict (slope_of b) (slack_of b) (heights_of b (last_of b + 1))) ≡ true
  pub name_passes : is_ok (name_verdict name) ≡ true

pub accepted : (b : List ℕ) (name : ℕ) → is_ok (record_verdict b name) ≡ true → Accepted b name
accepted b name h =
    let x = unless_err (nat_lt (length b) 6) _ _ h in
    let y = both_ok (line_verdict (last_of b) (slope_of b) (slack_of b)) _ x.1 in
    let z = both_ok (shape_verdict b (last_of b)) _ y.1 in
    let w = both_ok (heights_verdict (slope_of b) (slack_of b) (heights_of b (last_of b + 1))) (name_verdict name) z.1 in
    let s = only_if (length b == 6 + 2 * (last_of b + 1)) RecordLengthWrong (cond (field_of b (44 + 16 * (last_of b + 1)) 4 == 0) (Ok tt) (Err PadBitSet)) z.0 in
    let p = only_if (field_of b (44 + 16 * (last_of b + 1)) 4 == 0) PadBitSet (Ok tt) s.1 in
    record {
      line_passes = y.0;
      line = line_ok (last_of b) (slope_of b) (slack_of b) y.0;
      size = eqb-true _ _ s.0;
      pad = eqb-true _ _ p.0;
      heights_pass = w.0;
      name_passes = w.1;
    }

pub sheet_passes : (b : List ℕ) (name : ℕ) → Accepted b name → is_ok (sheet_verdict (slope_of b) (slack_of b) (heights_of b (last_of b + 1))) ≡ true
sheet_passes b name a =
    let e : length (heights_of b (last_of b + 1)) - 1 ≡ last_of b = omega (arith, length-map-range_with_len (height_of b) 0 (last_of b + 1)) in
    ok_both (line_verdict (length (heights_of b (last_of b + 1)) - 1) (slope_of b) (slack_of b)) _
    (subst (λ n. is_ok (line_verdict n (slope_of b) (slack_of b)) ≡ true) (sym e) a.line_passes)
    a.heights_pass

pub record_lawful : (b : List ℕ) (name : ℕ) → is_ok (record_verdict b name) ≡ true → Lawful (record_meaning b name)
record_lawful b name h = list_lawful (slope_of b) (slack_of b) (heights_of b (last_of b + 1)) name (sheet_passes b name (accepted b name h))
