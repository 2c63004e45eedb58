-- The certificate that is cut out of a buffer, and what it is where the probing stopped.
use Rattle.std.proofs.Common.{◌≡◌, ℕ, ◌+◌, ◌*◌, ◌/◌, ◌≤◌, Bool, true, false, cond, ◌≢◌, List, [], ◌∷◌, ◌++◌, length, take, drop, Some, None, Ok, Err, Option, Result, nat_lt, sym, refl, ap, ◌∙◌, subst, append_assoc, append-nil, arith}
use Rattle.std.proofs.lemmas.List.{take_at}
use Rattle.std.proofs.lemmas.Bool.{cond-false, le-ltb}
use Rattle.terms.specs.Limits.{touches_max}
use Rattle.terms.specs.declared.refusal.Refusal.{Refusal}
use Rattle.terms.specs.declared.refusal.Refusal.TheVariants.{AlreadySettled, NotSettled, BufferTooShort}
use Rattle.caps.specs.declared.Touch.{Touch}
use Rattle.caps.specs.declared.Line.{Line}
use Rattle.caps.specs.declared.Outlook.{Outlook}
use Rattle.caps.specs.Outlooks.{outlook, settled_by, seen}
use Rattle.terms.specs.Meaning.{Meaning, Reading}
use Rattle.records.specs.Laws.{record_meaning}
use Rattle.surveys.specs.States.{Readings, State, standing, settled, full, opened}
use Rattle.surveys.specs.Calls.{high_place, high}
use Rattle.fields.specs.Bits.{Field, width_of}
use Rattle.fields.proofs.Packs.{length-packed}
use Rattle.certificates.specs.Layout.{touch_fields, certificate_fields, certificate_with, certificate_of, certificate_size}
use Rattle.certificates.specs.Verdict.{settled_or, with_room, written, certificate_verdict, left_by, certificate_leaves}
use Rattle.policies.specs.Lines.{known_text}
use Rattle.policies.specs.Probes.{room, after_highs, touches_told}
use Rattle.policies.proofs.Highs.{by_tests}
use Rattle.policies.specs.Policies.{bytes_or, certificate_bytes, certificate_told, or_stop, Closed, probed, survey_text, gauge_name, gauge_of, text_unless, Ends}

-- where there is room for it, a certificate is refused only by 19 and 20
roomy : (size room : ℕ) (v : Result Outlook Refusal) → size ≤ room → with_room size room v ≡ v
roomy size room (Ok o) h = cond-false _ _ _ (le-ltb room size h)
roomy size room (Err e) h = refl

counted : (size n : ℕ) (bytes : List ℕ) (v : Result Outlook Refusal) → Ok n ≡ written size v → (n ≡ size) × (Ok bytes ≡ bytes_or bytes v)
counted size n bytes (Ok o) e = let s : n ≡ size = cc in (s, refl)
counted size n bytes (Err x) e = let z : ◌≡◌ {A = ℕ} 0 1 = cc in absurd (omega arith)

uncounted : (size : ℕ) (x : Refusal) (bytes : List ℕ) (v : Result Outlook Refusal) → Err x ≡ written size v → Err x ≡ bytes_or bytes v
uncounted size x bytes (Ok o) e = let z : ◌≡◌ {A = ℕ} 0 1 = cc in absurd (omega arith)
uncounted size x bytes (Err y) e = let s : x ≡ y = cc in ap (λ (u : Refusal). Err u) s

-- a certificate has its size
touches_width : (ts : List Touch) → width_of (touch_fields ts) ≡ 28 * length ts
touches_width [] = refl
touches_width (t ∷ ts) = omega (arith, touches_width ts)

length_certificate : (line : Line) (tolerance : ℕ) (a : Touch) (ts : List Touch) → length (certificate_of line tolerance a ts) ≡ certificate_size (length (a ∷ ts))
unfolding certificate_with
length_certificate line tolerance a ts =
    let fs : List Field = certificate_fields line tolerance (a ∷ ts) (seen line a ts) in
    let e : width_of (certificate_fields line tolerance (a ∷ ts) (seen line a ts)) ≡ 98 + 28 * length (a ∷ ts) = omega (arith, touches_width (a ∷ ts)) in
    length-packed fs ∙ ap (λ n. (n + 7) / 8) e

-- what an accepted writing leaves in the buffer
module _ (line : Line) (t : ℕ) (ts : List Touch) (old : List ℕ) (size n : ℕ) (o : Outlook) where
  abbrev left : List ℕ
  left = certificate_with line t ts o ++ drop (certificate_size (length ts)) old

  by_room : (b : Bool) → Ok n ≡ written size (cond b (Err BufferTooShort) (Ok o)) → left_by line t ts old (cond b (Err BufferTooShort) (Ok o)) ≡ left
  by_room true e = let z : ◌≡◌ {A = ℕ} 0 1 = cc in absurd (omega arith)
  by_room false e = refl

  by_settled : (room : ℕ) (b : Bool) → Ok n ≡ written size (with_room size room (cond b (Ok o) (Err NotSettled))) → left_by line t ts old (with_room size room (cond b (Ok o) (Err NotSettled))) ≡ left
  by_settled room true e = by_room (nat_lt room size) e
  by_settled room false e = let z : ◌≡◌ {A = ℕ} 0 1 = cc in absurd (omega arith)

module _ (line : Line) (t : ℕ) (room : ℕ) where
  enough : (ts : List Touch) → length ts ≤ touches_max → room ≡ certificate_size touches_max → certificate_verdict line t ts room ≡ written (certificate_size (length ts)) (settled_or t (outlook line ts))
  enough ts few long = ap (written (certificate_size (length ts))) (roomy (certificate_size (length ts)) room (settled_or t (outlook line ts)) (omega arith))

  pub certificate_cut : (ts : List Touch) (old new : List ℕ) (n : ℕ) → room ≡ length old → length ts ≤ touches_max → room ≡ certificate_size touches_max → Ok n ≡ certificate_verdict line t ts (length old) →
      new ≡ certificate_leaves line t ts old → Ok (take n new) ≡ bytes_or (certificate_bytes line t ts) (settled_or t (outlook line ts))
  certificate_cut [] old new n r few long v b = let z : ◌≡◌ {A = ℕ} 0 1 = cc in absurd (omega arith)
  certificate_cut (a ∷ ts) old new n r few long v b =
      let all = a ∷ ts in
      let size : ℕ = certificate_size (length (a ∷ ts)) in
      let bytes = certificate_of line t a ts in
      let here = v ∙ ap (certificate_verdict line t (a ∷ ts)) (sym r) ∙ enough (a ∷ ts) few long in
      let c = counted (certificate_size (length (a ∷ ts))) n bytes (settled_or t (outlook line (a ∷ ts))) here in
      let front : new ≡ bytes ++ drop size old = b ∙ by_settled line t (a ∷ ts) old size n (seen line a ts) (length old) (settled_by (outlook line (a ∷ ts)) t) v in
      let cut : take n new ≡ bytes = ap (take n) front ∙ take_at bytes (drop size old) n (length_certificate line t a ts ∙ sym c.0) in
      ap (λ (x : List ℕ). Ok x) cut ∙ c.1

  pub certificate_refused : (ts : List Touch) (old : List ℕ) (x : Refusal) → room ≡ length old → length ts ≤ touches_max → room ≡ certificate_size touches_max → Err x ≡ certificate_verdict line t ts (length old) →
      Err x ≡ bytes_or (certificate_bytes line t ts) (settled_or t (outlook line ts))
  certificate_refused ts old x r few long v =
      uncounted (certificate_size (length ts)) x (certificate_bytes line t ts) (settled_or t (outlook line ts)) (v ∙ ap (certificate_verdict line t ts) (sym r) ∙ enough ts few long)

-- a survey without a certificate is not settled
by_test : (b : Bool) (o : Outlook) (bytes : List ℕ) (e : Refusal) → Err e ≡ bytes_or bytes (cond b (Ok o) (Err NotSettled)) → b ≡ false
by_test true o bytes e h = let z : ◌≡◌ {A = ℕ} 0 1 = cc in absurd (omega arith)
by_test false o bytes e h = refl

unsettled : (t : ℕ) (o : Option Outlook) (bytes : List ℕ) (e : Refusal) → Err e ≡ bytes_or bytes (settled_or t o) → settled_by o t ≡ false
unsettled t None bytes e h = refl
unsettled t (Some o) bytes e h = by_test (settled_by (Some o) t) o bytes e h

-- a survey that is not settled has no certificate, and the stop is the answer; a settled one has its own
told_open : (t : ℕ) (o : Option Outlook) (bytes : List ℕ) (stop : Refusal) → false ≡ settled_by o t → Err stop ≡ or_stop stop (bytes_or bytes (settled_or t o))
told_open t None bytes stop e = refl
told_open t (Some o) bytes stop e = ap (λ b. or_stop stop (bytes_or bytes (cond b (Ok o) (Err NotSettled)))) e

told_settled : (t : ℕ) (o : Option Outlook) (bytes : List ℕ) (stop : Refusal) → true ≡ settled_by o t → bytes_or bytes (settled_or t o) ≡ or_stop stop (bytes_or bytes (settled_or t o))
told_settled t None bytes stop e = let z : ◌≡◌ {A = ℕ} 0 1 = cc in absurd (omega arith)
told_settled t (Some o) bytes stop e =
    let v : settled_or t (Some o) ≡ Ok o = ap (λ b. cond b (Ok o) (Err NotSettled)) (sym e) in
    ap (bytes_or bytes) v ∙ ap (λ x. or_stop stop (bytes_or bytes x)) (sym v)

-- 13 is the refusal of a settled survey alone
stops_open : (s : State) (c : Bool) (p : ℕ) (r : Reading) (stop : Refusal) → (by_tests s false c p r).answer ≡ Err stop → stop ≢ AlreadySettled
stops_open s true p r stop h e = let z : ◌≡◌ {A = ℕ} 0 1 = cc in absurd (omega arith)
stops_open s false p (Ok y) stop h e = let z : ◌≡◌ {A = ℕ} 0 1 = cc in absurd (omega arith)
stops_open s false p (Err f) stop h e = let z : ◌≡◌ {A = ℕ} 0 1 = cc in absurd (omega arith)

-- what is answered by the stop is the certificate, or the stop
module _ (s : State) (p : ℕ) (r : Reading) (stop : Refusal) (c : Result (List ℕ) Refusal) (settles : stop ≡ AlreadySettled → c ≡ certificate_told s) (refuses : stop ≢ AlreadySettled → c ≡ Err stop) where
  by_stop : (b : Bool) → b ≡ settled s → (by_tests s b (full s) p r).answer ≡ Err stop → c ≡ or_stop stop (certificate_told s)
  by_stop true e h = let is : stop ≡ AlreadySettled = cc in settles is ∙ told_settled s.tolerance (standing s) (certificate_bytes s.line s.tolerance s.touches) stop e
  by_stop false e h = refuses (stops_open s (full s) p r stop h) ∙ told_open s.tolerance (standing s) (certificate_bytes s.line s.tolerance s.touches) stop e

pub closes : (R : Readings) (s : State) (stop : Refusal) (c : Result (List ℕ) Refusal) → (high R s).answer ≡ Err stop → (stop ≡ AlreadySettled → c ≡ certificate_told s) → (stop ≢ AlreadySettled → c ≡ Err stop) → c ≡ or_stop stop (certificate_told s)
closes R s stop c h settles refuses = by_stop s (high_place s.line s.touches) (R (high_place s.line s.touches)) stop c settles refuses (settled s) refl h

pub closed : (R : Readings) (s : State) (stop : Refusal) (c v : Result (List ℕ) Refusal) → (high R s).answer ≡ Err stop → v ≡ certificate_told s → c ≡ or_stop stop v → Closed R s c
closed R s stop c (Ok bytes) h v e = subst (Closed R s) (sym e) v
closed R s stop c (Err x) h v e = subst (Closed R s) (sym e) (unsettled s.tolerance (standing s) (certificate_bytes s.line s.tolerance s.touches) x v, h)

-- the same of the survey that was opened, with what was printed
module _ (m : Meaning) (s : State) (R : Readings) (start after : State) (same : R ≡ m.reading) (opens : start ≡ s) (left : after ≡ after_highs (room start) R start) where
  pub printed : (before mid end : List ℕ) → mid ≡ before ++ touches_told (room start) R start → end ≡ mid ++ known_text after → end ≡ before ++ survey_text m s
  unfolding survey_text probed
  printed before mid end p q =
      q ∙ ap (λ x. x ++ known_text after) p ∙ append_assoc before (touches_told (room start) R start) (known_text after)
      ∙ ap (λ (a : State). before ++ (touches_told (room start) R start ++ known_text a)) left
      ∙ ap (λ (x : State). before ++ (touches_told (room x) R x ++ known_text (after_highs (room x) R x))) opens
      ∙ ap (λ (Q : Readings). before ++ (touches_told (room s) Q s ++ known_text (after_highs (room s) Q s))) same

  pub answered : (stop : Refusal) (c : Result (List ℕ) Refusal) → (high R after).answer ≡ Err stop → c ≡ or_stop stop (certificate_told after) → Closed m.reading (probed m s) c
  unfolding probed
  answered stop c h e =
      let here = closed R after stop c (certificate_told after) h refl e in
      let there = subst (λ (a : State). Closed R a c) (left ∙ ap (λ (x : State). after_highs (room x) R x) opens) here in
      subst (λ (Q : Readings). Closed Q (after_highs (room s) Q s) c) same there

-- what holds of the start that was made holds of the one that was asked for, and what holds of a record's gauge, of the gauge of its bytes
pub as_asked : (P : State → Type 0) (m : Meaning) (t l tolerance : ℕ) → t ≡ tolerance → l ≡ touches_max → P (opened m t l) → P (opened m tolerance touches_max)
as_asked P m t l tolerance e f p = subst (λ n. P (opened m tolerance n)) f (subst (λ n. P (opened m n l)) e p)

pub of_record : (P : Meaning → Type 0) (b sheet : List ℕ) (name : ℕ) → b ≡ sheet → name ≡ gauge_name → P (record_meaning b name) → P (gauge_of sheet)
of_record P b sheet name e f p = subst (λ n. P (record_meaning sheet n)) f (subst (λ (x : List ℕ). P (record_meaning x name)) e p)

-- where something refuses before the first touch, nothing is printed, and that is answered
pub silent_if : (before text : List ℕ) (o : Option Refusal) (e : Refusal) → o ≡ Some e → before ≡ before ++ text_unless o text
silent_if before text o e h = sym (append-nil before) ∙ ap (λ (x : Option Refusal). before ++ text_unless x text) (sym h)

pub ends_if : (m : Meaning) (s : State) (o : Option Refusal) (e : Refusal) → o ≡ Some e → Ends o m s (Err e)
ends_if m s o e h = subst (λ (x : Option Refusal). Ends x m s (Err e)) (sym h) refl
