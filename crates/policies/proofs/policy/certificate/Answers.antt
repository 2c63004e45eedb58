use Rattle.std.proofs.Common.{◌≡◌, ℕ, ◌≤◌, List, length, take, Ok, Err, Result, MatchResult, vec_items, refl, ap, ◌∙◌, arith, rules}
use Rattle.std.specs.Result.{IsOkAnd}
use Rattle.std.proofs.lemmas.List.{with_items_is}
use Rattle.terms.specs.Limits.{touches_max}
use Rattle.terms.specs.declared.refusal.Refusal.{Refusal}
use Rattle.logs.specs.Logs.{state_of}
use Rattle.logs.proofs.Tables.{count_is}
use Rattle.certificates.specs.Layout.{certificate_size}
use Rattle.policies.specs.Policies.{as_list, certificate_told}
use Rattle.policies.proofs.Closings.{certificate_cut, certificate_refused}
use Rattle.policies.proofs.policy.certificate.Goals as goal

-- an answer that is mapped has the list that is wanted, if each of its values has
mapped : {V : Type 0} (items : V → List ℕ) (told : Result (List ℕ) Refusal) (r : Result ℕ Refusal) (out : Result V Refusal) (Q : ℕ → V → Type 0) →
    ((n : ℕ) (v : V) → Ok n ≡ r → Q n v → Ok (items v) ≡ told) → ((e : Refusal) → Err e ≡ r → Err e ≡ told) →
    MatchResult r (λ n. IsOkAnd out (Q n)) (λ e. out ≡ Err e) → as_list items out ≡ told
mapped items told (Ok n) (Ok v) Q f g h = f n v refl h
mapped items told (Ok n) (Err e) Q f g h = absurd h
mapped items told (Err e) out Q f g h = ap (as_list items) h ∙ g e refl

pub returns : goal.returns
returns c =
    let log = c.args.log.now in
    let few : length (state_of c.args.log.now).touches ≤ touches_max = omega (arith, count_is log, log.within, log.room) in
    let long : length c.as_mut_slice.result.now ≡ certificate_size touches_max = omega (arith, c.in_ok-bytes.ensures) in
    let n : length c.certify.new.buf ≡ c.in_ok-bytes.bytes.len = omega arith in
    mapped vec_items (certificate_told (state_of c.args.log.now)) c.certify.result c.map.result _
    (λ k v i q.
    let all = with_items_is c.in_ok-bytes.bytes c.certify.new.buf n in
    let cut : vec_items v ≡ take k c.certify.new.buf = (search rules) ∙ ap (take k) all in
    ap (λ (x : List ℕ). Ok x) cut ∙ certificate_cut log.notes.line log.notes.tolerance _ (state_of log).touches _ _ k refl few long (i ∙ c.certify.ensures.answer) c.certify.ensures.bytes)
    (λ e i. certificate_refused log.notes.line log.notes.tolerance _ (state_of log).touches _ e refl few long (i ∙ c.certify.ensures.answer))
    c.map.ensures.cases
