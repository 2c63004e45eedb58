-- Packing what an accepted record says gives its bytes again.
use Rattle.std.proofs.Common.{◌≡◌, ℕ, ◌+◌, ◌-◌, ◌*◌, true, false, ltb, List, length, ℤ, pos, negsuc, is_ok, Ok, sym, refl, ap, ◌∙◌, ⊎_elim, arith}
use Rattle.std.proofs.lemmas.List.FromFn.{length-map-range_with_len, fill_by_all}
use Rattle.std.proofs.lemmas.Bool.{both_ways, cases_Bool, le-ltb, eqb-true, cond-false}
use Rattle.heights.specs.Heights.{height_at, marked}
use Rattle.heights.specs.Lists.{entry_reading, list_reading, list_meaning}
use Rattle.heights.proofs.Verdicts.{ok_is}
use Rattle.records.specs.Sheet.{last_of, slope_of, slack_of, height_of, heights_of, sheet_with, sheet_of}
use Rattle.records.specs.Verdict.{record_verdict, verdict_of, write_verdict, write_leaves}
use Rattle.records.specs.Laws.{record_meaning, Accepted, accepted}
use Rattle.records.specs.Theorem.{Bytes}
use Rattle.records.proofs.Sheets.{one_record_each}
use Rattle.sheets.specs.Entries.{entry, entries}
use Rattle.sheets.proofs.Fills.{fits, filled}

-- a mark stands where there is no reading, and nowhere else
mark_is : (h : ℤ) → marked h ≡ true → h ≡ negsuc 32767
mark_is (pos n) m = absurd (both_ways false refl m)
mark_is (negsuc n) m = ap negsuc (eqb-true n 32767 m)

entry_of_mark : (h : ℤ) (name p : ℕ) → h ≡ entry (entry_reading name p h)
entry_of_mark h name p =
    ⊎_elim (λ (m : marked h ≡ true). rw m (mark_is h m)) (λ (m : marked h ≡ false). rw m refl) (cases_Bool (marked h))

-- the entries of a list's gauge are the list
entries_of_list : (slope slack : ℕ) (xs : List ℤ) (name n : ℕ) → length xs ≡ n → entries (list_meaning slope slack xs name) n ≡ xs
entries_of_list slope slack xs name n e =
    sym (fill_by_all (λ p. entry (list_reading xs name p)) xs n (pos 0) e
    (λ k l. entry_of_mark (height_at xs k) name k ∙ ap entry (sym (cond-false (ltb (length xs - 1) k) _ _ (le-ltb _ _ (omega arith))))))

pub entries_of_record : (b : List ℕ) (name : ℕ) → entries (record_meaning b name) ((record_meaning b name).last + 1) ≡ heights_of b (last_of b + 1)
entries_of_record b name =
    let hs : List ℤ = heights_of b (last_of b + 1) in
    entries_of_list (slope_of b) (slack_of b) hs name (length hs - 1 + 1) (omega (arith, length-map-range_with_len (height_of b) 0 (last_of b + 1)))

module _ (b : List ℕ) (name : ℕ) (bytes : Bytes b) (ok : is_ok (record_verdict b name) ≡ true) (old : List ℕ) (room : length old ≡ length b) where
  abbrev hs : List ℤ
  hs = heights_of b (last_of b + 1)

  passed : Accepted b name
  passed = accepted b name ok

  count : length hs ≡ last_of b + 1
  count = length-map-range_with_len (height_of b) 0 (last_of b + 1)

  size : 6 + 2 * length hs ≡ length b
  size = omega (arith, count, passed.size)

  lawful : verdict_of (sheet_with (slope_of b) (slack_of b) hs) ≡ Ok tt
  unfolding sheet_of
  lawful = one_record_each.lawful b name (ok_is _ ok)

  pub answered : write_verdict (sheet_with (slope_of b) (slack_of b) hs) (length old) ≡ Ok (length b)
  answered = fits (sheet_with (slope_of b) (slack_of b) hs) old lawful (room ∙ sym size) ∙ ap Ok size

  pub left : write_leaves (sheet_with (slope_of b) (slack_of b) hs) old ≡ b
  unfolding sheet_of
  left = filled (sheet_with (slope_of b) (slack_of b) hs) old lawful (room ∙ sym size) ∙ sym (one_record_each.only (sheet_of b) b name bytes (ok_is _ ok) refl)
