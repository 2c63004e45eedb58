use Rattle.std.proofs.Common.{◌≡◌, ℕ, ◌+◌, true, List, length, is_ok, sym, ap, ◌∙◌, subst, rules}
use Rattle.std.specs.Str.{bytes_eq}
use Rattle.std.proofs.lemmas.Slice.Eq.{bytes_eq-Decides}
use Rattle.std.proofs.lemmas.List.{take_at}
use Rattle.std.proofs.lemmas.Bool.{and_from}
use Rattle.records.specs.Sheet.{last_of, slope_of, slack_of, heights_of, sheet_with}
use Rattle.records.specs.Verdict.{write_verdict, write_leaves}
use Rattle.records.specs.Theorem.{Bytes}
use Rattle.sheets.proofs.Repacks.{entries_of_record, answered, left}
use Rattle.sheets.proofs.repack.packs_again.Goals as goal

pub returns : goal.returns
returns c =
    let b : List ℕ = c.args.record.bytes.now in
    let name : ℕ = c.args.record.name in
    let old : List ℕ = c.deref_mut.result.now in
    let lent : c.bytes-bytes.result.now ≡ b = c.bytes-bytes.ensures in
    let fit : Bytes c.bytes-bytes.result.now = λ i. search rules in
    let bytes : Bytes b = subst Bytes lent fit in
    let room : length old ≡ length b = c.deref_mut.ensures.len ∙ c.in_ok-again.ensures.len ∙ ap length lent in
    let slope : c.slope.result ≡ slope_of b = c.slope.ensures in
    let slack : c.slack.result ≡ slack_of b = c.slack.ensures in
    let heights : c.deref.result.now ≡ heights_of b (last_of b + 1) = c.deref.ensures.value ∙ c.in_ok-heights.ensures ∙ entries_of_record b name in
    let sheet : sheet_with c.slope.result c.slack.result c.deref.result.now ≡ sheet_with (slope_of b) (slack_of b) (heights_of b (last_of b + 1)) = cc in
    let taken : is_ok c.write-written.result ≡ true =
    ap is_ok (c.write-written.ensures.answer ∙ ap (λ s. write_verdict s (length old)) sheet ∙ answered b name bytes c.args.record.passes old room) in
    let same : c.write-written.new.buf ≡ b =
    c.write-written.ensures.bytes ∙ ap (λ s. write_leaves s old) sheet ∙ left b name bytes c.args.record.passes old room in
    let all : length c.write-written.new.buf ≡ c.in_ok-again.again.len = ap length (same ∙ sym lent) ∙ sym c.in_ok-again.ensures.len in
    let whole : c.deref-2.result.now ≡ c.bytes-bytes.result.now = c.deref-2.ensures.value ∙ take_at _ _ _ all ∙ same ∙ sym lent in
    c.is_again.ensures
    ∙ and_from (is_ok c.write-written.result) (bytes_eq c.deref-2.result.now c.bytes-bytes.result.now) taken ((bytes_eq-Decides _ _).1 whole)
