-- How much of a record and an input decides what is printed.
use Rattle.std.proofs.Common.{◌≡◌, ℕ, ◌+◌, ◌-◌, ◌*◌, ◌/◌, ◌%◌, ◌^◌, ◌≤◌, true, false, cond, eqb, ltb, List, [], ◌∷◌, ◌++◌, length, take, is_ok, Ok, Err, codes, sym, refl, ap, ◌∙◌, ⊎_elim, arith}
use Rattle.std.specs.Result.{result_and}
use Rattle.std.proofs.lemmas.Nat.{div_below}
use Rattle.std.proofs.lemmas.List.{take_all, get_or-take, length-take-le}
use Rattle.std.proofs.lemmas.Bool.{cases_lt, lt-ltb, le-ltb, ne_eqb, cond-true, cond-false, both_ways}
use Rattle.terms.specs.declared.refusal.Refusal.TheVariants.{RecordTooShort, RecordLengthWrong, PadBitSet}
use Rattle.heights.specs.Verdicts.{Verdict, line_verdict, heights_verdict, name_verdict}
use Rattle.heights.proofs.Verdicts.{line_ok}
use Rattle.fields.specs.Bits.{field_of, bit}
use Rattle.fields.proofs.Laws.{num_same}
use Rattle.records.specs.Sheet.{last_of, slope_of, slack_of, heights_of}
use Rattle.records.specs.Verdict.{record_verdict, shape_verdict}
use Rattle.commands.specs.Lines.{line_end}
use Rattle.commands.specs.Orders.{orders}
use Rattle.transcripts.specs.Transcripts.{gauge_name, input_max, by_verdict, gauge_of, survey_of, transcript, unless_long, printed, printed_for}
use Rattle.transcripts.specs.Talks.{sheet_read, input_read, ReadsEnough}

-- the fields before the heights lie in the first bytes
field_same : (b : List ℕ) (n a w : ℕ) → a + w ≤ n * 8 → field_of (take n b) a w ≡ field_of b a w
unfolding field_of
field_same b n a w h =
    num_same (bit (take n b)) (bit b) a a w
    (λ k l. ap (λ x. x / 2 ^ (7 - (a + k) % 8) % 2) (get_or-take n b ((a + k) / 8) 0 (div_below (a + k) 8 n (omega arith) (omega arith))))

-- a refusal is the same whatever would be tested after it
first_decides : (v x y : Verdict) → (is_ok v ≡ true → x ≡ y) → result_and v x ≡ result_and v y
first_decides (Ok t) x y h = h refl
first_decides (Err e) x y h = refl

refused_first : (v x : Verdict) → (is_ok v ≡ true → is_ok x ≡ false) → is_ok (result_and v x) ≡ false
refused_first (Ok t) x h = h refl
refused_first (Err e) x h = refl

-- what follows the line's tests
abbrev after_line : List ℕ → ℕ → ℕ → ℕ → Verdict
after_line b last slope slack = result_and (shape_verdict b last) (result_and (heights_verdict slope slack (heights_of b (last + 1))) (name_verdict gauge_name))

-- bytes that are longer than the last position calls for
wrong_length : (b : List ℕ) (last slope slack : ℕ) → sheet_read ≤ length b → is_ok (line_verdict last slope slack) ≡ true → after_line b last slope slack ≡ Err RecordLengthWrong
wrong_length b last slope slack l h =
    let most = (line_ok last slope slack h).last_most in
    let e = ne_eqb (length b) (6 + 2 * (last + 1)) (λ q. omega arith) in
    ap (λ v. result_and v (result_and (heights_verdict slope slack (heights_of b (last + 1))) (name_verdict gauge_name)))
    (cond-false (eqb (length b) (6 + 2 * (last + 1))) (cond (eqb (field_of b (44 + 16 * (last + 1)) 4) 0) (Ok tt) (Err PadBitSet)) (Err RecordLengthWrong) e)

module _ (b : List ℕ) (l : sheet_read ≤ length b) where
  abbrev front : List ℕ
  front = take sheet_read b

  front_long : length front ≡ sheet_read
  front_long = length-take-le sheet_read b l

  by_line : (c : List ℕ) → sheet_read ≤ length c → record_verdict c gauge_name ≡ result_and (line_verdict (last_of c) (slope_of c) (slack_of c)) (Err RecordLengthWrong)
  by_line c m =
      cond-false (ltb (length c) 6) (Err RecordTooShort) _ (le-ltb _ _ (omega arith))
      ∙ first_decides (line_verdict (last_of c) (slope_of c) (slack_of c)) _ _ (λ h. wrong_length c (last_of c) (slope_of c) (slack_of c) m h)

  same_line : line_verdict (last_of front) (slope_of front) (slack_of front) ≡ line_verdict (last_of b) (slope_of b) (slack_of b)
  same_line =
      ap (λ x. line_verdict x (slope_of front) (slack_of front)) (field_same b sheet_read 0 12 (omega arith))
      ∙ ap (λ x. line_verdict (last_of b) x (slack_of front)) (field_same b sheet_read 12 16 (omega arith))
      ∙ ap (line_verdict (last_of b) (slope_of b)) (field_same b sheet_read 28 16 (omega arith))

  pub front_verdict : record_verdict front gauge_name ≡ record_verdict b gauge_name
  front_verdict = by_line front (omega (arith, front_long)) ∙ ap (λ v. result_and v (Err RecordLengthWrong)) same_line ∙ sym (by_line b l)

  pub long_refused : is_ok (record_verdict b gauge_name) ≡ false
  long_refused = ap is_ok (by_line b l) ∙ refused_first (line_verdict (last_of b) (slope_of b) (slack_of b)) (Err RecordLengthWrong) (λ _. refl)

refused_text : (v : Verdict) (x y : List ℕ) → is_ok v ≡ false → by_verdict v x ≡ by_verdict v y
refused_text (Ok t) x y h = absurd (both_ways true h refl)
refused_text (Err e) x y h = refl

-- an input that is too long is so by its first bytes
same_input : (text : List ℕ → List ℕ) (input : List ℕ) → unless_long (take input_read input) (text (take input_read input)) ≡ unless_long input (text input)
same_input text input =
    ⊎_elim
    (λ l. let n : length (take input_read input) ≡ input_read = length-take-le input_read input (omega arith) in
    cond-true (ltb input_max (length (take input_read input))) (codes "long" ++ line_end ∷ []) (text (take input_read input)) (lt-ltb _ _ (omega arith))
    ∙ sym (cond-true (ltb input_max (length input)) (codes "long" ++ line_end ∷ []) (text input) (lt-ltb _ _ (omega arith))))
    (λ l. ap (λ i. unless_long i (text i)) (take_all input_read input (omega arith)))
    (cases_lt input_max (length input))

bounded : (sheet input : List ℕ) → printed (take sheet_read sheet) (take input_read input) ≡ printed sheet input
bounded sheet input =
    ⊎_elim
    (λ l. ap (λ b. printed b (take input_read input)) (take_all sheet_read sheet (omega arith)) ∙ ap (by_verdict (record_verdict sheet gauge_name)) (same_input (λ i. transcript (gauge_of sheet).reading (survey_of sheet) (orders i)) input))
    (λ l. ap (λ v. by_verdict v (printed_for (take sheet_read sheet) (take input_read input))) (front_verdict sheet l)
    ∙ refused_text (record_verdict sheet gauge_name) (printed_for (take sheet_read sheet) (take input_read input)) (printed_for sheet input) (long_refused sheet l))
    (cases_lt (length sheet) sheet_read)

pub reads_enough : ReadsEnough
reads_enough = record {
  bounded = bounded;
  refused = λ sheet input other h. refused_text (record_verdict sheet gauge_name) (printed_for sheet input) (printed_for sheet other) h;
}
