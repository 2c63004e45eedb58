-- What writing a certificate answers, and what the buffer then has.
use Rattle.std.specs.Prelude.{ℕ, cond, List, ◌++◌, length, drop, Some, None, Ok, Err, Option, Result, nat_lt}
use Rattle.terms.specs.declared.refusal.Refusal.{Refusal}
use Rattle.terms.specs.declared.refusal.Refusal.TheVariants.{NothingTouched, NotSettled, BufferTooShort}
use Rattle.caps.specs.declared.Touch.{Touch}
use Rattle.caps.specs.declared.Line.{Line}
use Rattle.caps.specs.declared.Outlook.{Outlook}
use Rattle.caps.specs.Outlooks.{outlook, settled_by}
use Rattle.surveys.specs.States.{State}
use Rattle.certificates.specs.Layout.{certificate_with, certificate_size}

-- what the touches of a settled survey tell: else 19, nothing is touched, or 20, it is not settled
abbrev pub settled_or : ℕ → Option Outlook → Result Outlook Refusal
settled_or tolerance None = Err NothingTouched
settled_or tolerance (Some o) = cond (settled_by (Some o) tolerance) (Ok o) (Err NotSettled)

-- the same where the buffer has room: else 21
abbrev pub with_room : ℕ → ℕ → Result Outlook Refusal → Result Outlook Refusal
with_room size room (Ok o) = cond (nat_lt room size) (Err BufferTooShort) (Ok o)
with_room size room (Err e) = Err e

abbrev pub certified : Line → ℕ → List Touch → ℕ → Result Outlook Refusal
certified line tolerance ts room = with_room (certificate_size (length ts)) room (settled_or tolerance (outlook line ts))

-- the number of bytes written
abbrev pub written : ℕ → Result Outlook Refusal → Result ℕ Refusal
written size (Ok o) = Ok size
written size (Err e) = Err e

abbrev pub certificate_verdict : Line → ℕ → List Touch → ℕ → Result ℕ Refusal
certificate_verdict line tolerance ts room = written (certificate_size (length ts)) (certified line tolerance ts room)

-- the certificate at the front, all bytes after it as they were; on a refusal the whole buffer as it was
abbrev pub left_by : Line → ℕ → List Touch → List ℕ → Result Outlook Refusal → List ℕ
left_by line tolerance ts old (Ok o) = certificate_with line tolerance ts o ++ drop (certificate_size (length ts)) old
left_by line tolerance ts old (Err e) = old

abbrev pub certificate_leaves : Line → ℕ → List Touch → List ℕ → List ℕ
certificate_leaves line tolerance ts old = left_by line tolerance ts old (certified line tolerance ts (length old))

-- The same of a survey: its line, its tolerance and its touches are all that counts.
abbrev pub verdict_on : State → ℕ → Result ℕ Refusal
verdict_on s room = certificate_verdict s.line s.tolerance s.touches room

abbrev pub left_by_survey : State → List ℕ → List ℕ
left_by_survey s old = certificate_leaves s.line s.tolerance s.touches old
