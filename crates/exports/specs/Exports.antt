-- What the exported functions answer for the bytes of a record.
use Rattle.std.specs.Prelude.{◌≡◌, ℕ, List, pos, Ok, Err, Result}
use Rattle.std.specs.Result.{result_and}
use Rattle.terms.specs.Limits.{touches_max}
use Rattle.terms.specs.Meaning.{Meaning}
use Rattle.terms.specs.Refusals.{number}
use Rattle.terms.specs.declared.refusal.Refusal.{Refusal}
use Rattle.heights.specs.Verdicts.{Verdict}
use Rattle.records.specs.Laws.{record_meaning}
use Rattle.records.specs.Verdict.{record_verdict}
use Rattle.surveys.specs.declared.answers.Course.{Course}
use Rattle.surveys.specs.declared.answers.Report.{Report}
use Rattle.surveys.specs.Numbers.{stop_number}
use Rattle.surveys.specs.States.{Readings, State, opened}
use Rattle.surveys.specs.Calls.{Outcome, run, tol, ask}
use Rattle.certificates.specs.Verdict.{verdict_on, left_by_survey}
use Rattle.exports.specs.declared.Figures.{Figures}

-- 0 where accepted, else the number of the refusal
abbrev pub number_of : {A : Type 0} → Result A Refusal → ℕ
number_of (Ok a) = 0
number_of (Err r) = number r

-- the name of the record's gauge
abbrev pub record_name : ℕ
record_name = 1

abbrev pub gauge_of : List ℕ → Meaning
gauge_of b = record_meaning b record_name

-- the survey of a record, opened with the touch limit 256, with its tolerance set
abbrev pub set_up : List ℕ → ℕ → Outcome Verdict
set_up b tolerance = tol (opened (gauge_of b) 0 touches_max) tolerance

-- the tests of a record, and then of a tolerance
abbrev pub opening_verdict : List ℕ → ℕ → Verdict
opening_verdict b tolerance = result_and (record_verdict b record_name) (set_up b tolerance).answer

-- that survey: its gauge means the record's, and its state is the defined one
pub record IsSetUp (b : List ℕ) (tolerance : ℕ) (m : Meaning) (s : State) : Type 0 where
  pub gauge : m ≡ gauge_of b
  pub state : s ≡ (set_up b tolerance).after

-- a run over the record with that budget
abbrev pub ran : List ℕ → ℕ → ℕ → Outcome Course
ran b tolerance budget = run (gauge_of b).reading (set_up b tolerance).after budget

-- a run's course beside what ask then answers; before the first touch 0 stands for each figure
abbrev pub figures_with : Course → Result Report Refusal → Figures
figures_with c (Ok r) =
    record { made = c.made; stop = stop_number c.stop; touches = r.touches; place = r.floor.position; floor = r.floor.height; ceiling = r.ceiling }
figures_with c (Err e) = record { made = c.made; stop = stop_number c.stop; touches = 0; place = 0; floor = pos 0; ceiling = pos 0 }

abbrev pub figures_of : Outcome Course → Figures
figures_of o = figures_with o.answer (ask o.after).answer

-- the new value where accepted, else the old one
abbrev pub unless_refused : {A B : Type 0} → Result A Refusal → B → B → B
unless_refused (Ok a) new old = new
unless_refused (Err r) new old = old

-- what the run leaves in the caller's figures
abbrev pub figures_left : List ℕ → ℕ → ℕ → Figures → Figures
figures_left b tolerance budget old = unless_refused (opening_verdict b tolerance) (figures_of (ran b tolerance budget)) old

-- a survey after a run
unfoldable pub settling : Readings → State → ℕ → State
settling reading s budget = (run reading s budget).after

-- the survey of a record after as many touches as it takes
abbrev pub probed : List ℕ → ℕ → State
probed b tolerance = settling (gauge_of b).reading (set_up b tolerance).after touches_max

-- what the certificate of a survey over an accepted record answers: the number of its bytes
abbrev pub probed_answer : List ℕ → ℕ → ℕ → Result ℕ Refusal
probed_answer b tolerance room = result_and (set_up b tolerance).answer (verdict_on (probed b tolerance) room)

-- what is then in the caller's buffer
abbrev pub probed_left : List ℕ → ℕ → List ℕ → List ℕ
probed_left b tolerance old = unless_refused (set_up b tolerance).answer (left_by_survey (probed b tolerance) old) old

-- the same of any record
abbrev pub certificate_answer : List ℕ → ℕ → ℕ → Result ℕ Refusal
certificate_answer b tolerance room = result_and (record_verdict b record_name) (probed_answer b tolerance room)

abbrev pub certificate_left : List ℕ → ℕ → List ℕ → List ℕ
certificate_left b tolerance old = unless_refused (record_verdict b record_name) (probed_left b tolerance old) old

-- the number of bytes where accepted, else the old one
abbrev pub length_left : Result ℕ Refusal → ℕ → ℕ
length_left (Ok n) old = n
length_left (Err r) old = old
