-- A text's record, or why there is none.
use Rattle.std.proofs.Common.{◌≡◌, ℕ, List, ℤ, Ok, Err, Result, sym, ap, ◌∙◌, subst}
use Rattle.texts.specs.declared.sheet.TextError.{TextError}
use Rattle.texts.specs.declared.sheet.TextError.TheVariants as text
use Rattle.texts.specs.Words.{words}
use Rattle.texts.specs.Said.{Figures, figures, sheet_said, Answers}
use Rattle.records.specs.Sheet.{sheet_with, record_of}
use Rattle.records.specs.Verdict.{verdict_of}
use Rattle.sheets.specs.declared.failure.Failure.{Failure}
use Rattle.sheets.specs.declared.failure.Failure.TheVariants as made
use Rattle.sheets.specs.Packs.{PackedAs}
use Rattle.accounts.specs.declared.packing.NotPacked.{NotPacked}
use Rattle.accounts.specs.Packings.{unsaid, unmade, sheet_with_figures, by_verdict, record_with, record_said, PacksText}

abbrev whole : List ℕ → Result (List ℕ) NotPacked
whole bytes = Ok bytes

by_cases : (bytes : List ℕ) (e : TextError) → Answers figures (sheet_said (words bytes)) (Err e) → PacksText bytes (Err (unsaid e))
by_cases bytes text.NoSlope p = ap record_with p
by_cases bytes text.NoSlack p = ap record_with p
by_cases bytes (text.NoHeight n) p = ap record_with p
by_cases bytes text.NoMemory p = tt

pub text_failed : (bytes : List ℕ) (e : TextError) (n : NotPacked) → n ≡ unsaid e → Answers figures (sheet_said (words bytes)) (Err e) → PacksText bytes (Err n)
text_failed bytes e n f p = subst (λ x. PacksText bytes (Err x)) (sym f) (by_cases bytes e p)

module _ (bytes : List ℕ) (s : Figures) (said : sheet_said (words bytes) ≡ Ok s) where
  with_verdict : record_said bytes ≡ by_verdict (verdict_of (sheet_with_figures s)) (record_of (sheet_with_figures s))
  with_verdict = ap record_with said

  refused : (e : Failure) → PackedAs s.slope s.slack s.heights (Err e) → PacksText bytes (Err (unmade e))
  refused (made.Refused r) p = with_verdict ∙ ap (λ v. by_verdict v (record_of (sheet_with_figures s))) p
  refused made.NoMemory p = tt

  pub pack_failed : (heights : List ℤ) (e : Failure) (n : NotPacked) → heights ≡ s.heights → n ≡ unmade e → PackedAs s.slope s.slack heights (Err e) → PacksText bytes (Err n)
  pack_failed heights e n h f p =
      subst (λ x. PacksText bytes (Err x)) (sym f) (refused e (subst (λ hs. PackedAs s.slope s.slack hs (Err e)) h p))

  pub text_packed : (heights : List ℤ) (v : List ℕ) → heights ≡ s.heights → verdict_of (sheet_with s.slope s.slack heights) ≡ Ok tt → v ≡ record_of (sheet_with s.slope s.slack heights) → record_said bytes ≡ Ok v
  text_packed heights v h p q =
      with_verdict
      ∙ ap (λ x. by_verdict x (record_of (sheet_with_figures s))) (sym (ap (λ hs. verdict_of (sheet_with s.slope s.slack hs)) h) ∙ p)
      ∙ ap whole (sym (q ∙ ap (λ hs. record_of (sheet_with s.slope s.slack hs)) h))
