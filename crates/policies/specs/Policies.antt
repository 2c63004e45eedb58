-- What a policy has: the certificate, and the text that is printed on the way to it.
use Rattle.std.specs.Prelude.{◌≡◌, ℕ, false, List, [], ◌∷◌, ◌++◌, Some, None, Ok, Err, Option, Result}
use Rattle.terms.specs.Limits.{touches_max}
use Rattle.terms.specs.Meaning.{Meaning}
use Rattle.terms.specs.declared.refusal.Refusal.{Refusal}
use Rattle.heights.specs.Verdicts.{Verdict}
use Rattle.records.specs.Laws.{record_meaning}
use Rattle.records.specs.Verdict.{record_verdict}
use Rattle.caps.specs.declared.Touch.{Touch}
use Rattle.caps.specs.declared.Line.{Line}
use Rattle.caps.specs.declared.Outlook.{Outlook}
use Rattle.surveys.specs.States.{Readings, State, standing, settled, opened, opening_refusal}
use Rattle.surveys.specs.Calls.{high}
use Rattle.certificates.specs.Layout.{certificate_of}
use Rattle.certificates.specs.Verdict.{settled_or}
use Rattle.policies.specs.Lines.{known_text}
use Rattle.policies.specs.Probes.{room, after_highs, touches_told}

-- an answer with the list that f makes of its value
abbrev pub as_list : {V : Type 0} → (V → List ℕ) → Result V Refusal → Result (List ℕ) Refusal
as_list f (Ok v) = Ok (f v)
as_list f (Err e) = Err e

abbrev pub bytes_or : List ℕ → Result Outlook Refusal → Result (List ℕ) Refusal
bytes_or bytes (Ok o) = Ok bytes
bytes_or bytes (Err e) = Err e

-- the certificate of a list of touches; of no touches there is none
abbrev pub certificate_bytes : Line → ℕ → List Touch → List ℕ
certificate_bytes line tolerance [] = []
certificate_bytes line tolerance (a ∷ ts) = certificate_of line tolerance a ts

-- the certificate of a survey: else 19, nothing is touched, or 20, it is not settled
abbrev pub certificate_told : State → Result (List ℕ) Refusal
certificate_told s = bytes_or (certificate_bytes s.line s.tolerance s.touches) (settled_or s.tolerance (standing s))

-- the certificate, or the refusal that the probing stopped with
abbrev pub or_stop : Refusal → Result (List ℕ) Refusal → Result (List ℕ) Refusal
or_stop stop (Ok bytes) = Ok bytes
or_stop stop (Err e) = Err stop

-- where high refuses the survey s: its certificate; where it is not settled, why high refuses
abbrev pub Closed : Readings → State → Result (List ℕ) Refusal → Type 0
Closed reading s (Ok bytes) = Ok bytes ≡ certificate_told s
Closed reading s (Err e) = (settled s ≡ false) × ((high reading s).answer ≡ Err e)

-- the survey of a gauge once high refuses
unfoldable pub probed : Meaning → State → State
probed m s = after_highs (room s) m.reading s

-- what is printed for a survey of a gauge: each touch as it is made, then what is known
unfoldable pub survey_text : Meaning → State → List ℕ
survey_text m s = touches_told (room s) m.reading s ++ known_text (probed m s)

-- the name of the record's gauge
abbrev pub gauge_name : ℕ
gauge_name = 1

abbrev pub gauge_of : List ℕ → Meaning
gauge_of sheet = record_meaning sheet gauge_name

-- the survey of a record at the start: the tolerance, and the limit of 256 touches
abbrev pub start_of : List ℕ → ℕ → State
start_of sheet tolerance = opened (gauge_of sheet) tolerance touches_max

-- what refuses a policy before anything is touched: the record, then the tolerance
abbrev pub early : Verdict → Option Refusal → Option Refusal
early (Err e) opening = Some e
early (Ok accepted) opening = opening

abbrev pub refused_early : List ℕ → ℕ → Option Refusal
refused_early sheet tolerance = early (record_verdict sheet gauge_name) (opening_refusal tolerance touches_max)

-- nothing is printed then
abbrev pub text_unless : Option Refusal → List ℕ → List ℕ
text_unless None text = text
text_unless (Some e) text = []

-- what is printed for the bytes of a record and a tolerance
abbrev pub form_text : List ℕ → ℕ → List ℕ
form_text sheet tolerance = text_unless (refused_early sheet tolerance) (survey_text (gauge_of sheet) (start_of sheet tolerance))

-- what is answered: that refusal, or the certificate of the survey, or why there is none
abbrev pub Ends : Option Refusal → Meaning → State → Result (List ℕ) Refusal → Type 0
Ends (Some e) m s answer = answer ≡ Err e
Ends None m s answer = Closed m.reading (probed m s) answer

abbrev pub PolicyOf : List ℕ → ℕ → Result (List ℕ) Refusal → Type 0
PolicyOf sheet tolerance answer = Ends (refused_early sheet tolerance) (gauge_of sheet) (start_of sheet tolerance) answer
