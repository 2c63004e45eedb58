-- The report of a record, and of the layers that stand over it.
use Rattle.std.specs.Prelude.{ℕ, List, [], ◌∷◌, ◌++◌, length, Some, None, Ok, Err, codes, decimal, Option, Result}
use Rattle.std.specs.Result.{result_and}
use Rattle.terms.specs.declared.refusal.Refusal.{Refusal}
use Rattle.terms.specs.Meaning.{Meaning}
use Rattle.gauges.specs.Tents.{tent_verdict, tent_meaning}
use Rattle.layers.specs.Layers.{step_verdict, coarse_meaning, sum_meaning}
use Rattle.records.specs.Laws.{record_meaning}
use Rattle.records.specs.Verdict.{record_verdict}
use Rattle.accounts.specs.declared.stack.Beam.{Beam}
use Rattle.accounts.specs.Lines.{and_lines, told_lines, length_line, again_line, stack_lines}

-- the names of the record's and of the beam's gauge
abbrev pub record_name : ℕ
record_name = 1

abbrev pub beam_name : ℕ
beam_name = 2

-- what is told of an accepted record
abbrev pub record_lines : List ℕ → ℕ → List (List ℕ)
record_lines b name = (length_line (length b) ∷ told_lines (record_meaning b name)) ++ (again_line (length b) ∷ [])

-- lines, or why they are refused
abbrev pub Lines : Type 0
Lines = Result (List (List ℕ)) Refusal

abbrev pub with_heading : List ℕ → Lines → Lines
with_heading l (Ok ls) = Ok (l ∷ ls)
with_heading l (Err r) = Err r

abbrev pub step_heading : ℕ → List ℕ
step_heading q = codes "rounded down to steps of " ++ (decimal q ++ codes ":\n")

abbrev pub beam_heading : List ℕ
beam_heading = codes "with the bow of the beam added:\n"

-- a gauge whose heights are rounded down to a step
abbrev pub coarse_lines : Meaning → ℕ → Lines
coarse_lines m q = result_and (step_verdict q) (Ok (step_heading q ∷ stack_lines (coarse_meaning q m)))

-- a gauge under the step, where one is asked for
abbrev pub stepped : Meaning → Option ℕ → Lines
stepped m None = Ok (stack_lines m)
stepped m (Some q) = coarse_lines m q

-- the beam over as many positions as the gauge below it has
abbrev pub beam_verdict : Meaning → Beam → Result (Unit {0}) Refusal
beam_verdict m b = tent_verdict m.last b.slope b.crown b.height beam_name

abbrev pub beamed : Meaning → Beam → Meaning
beamed m b = sum_meaning m (tent_meaning m.last b.slope b.crown b.height beam_name)

-- a gauge under the beam and under the step, each where it is asked for; without either nothing is told
abbrev pub layered : Meaning → Option Beam → Option ℕ → Lines
layered m None None = Ok []
layered m None (Some q) = coarse_lines m q
layered m (Some b) step = result_and (beam_verdict m b) (with_heading beam_heading (stepped (beamed m b) step))

-- a text with lines after it, or their refusal
abbrev pub after_text : List ℕ → Lines → Result (List ℕ) Refusal
after_text out (Ok ls) = Ok (and_lines out ls)
after_text out (Err r) = Err r

-- the report of a record's bytes under those layers
abbrev pub report_of : List ℕ → Option Beam → Option ℕ → Result (List ℕ) Refusal
report_of b beam step =
    result_and (record_verdict b record_name)
    (after_text (and_lines [] (record_lines b record_name)) (layered (record_meaning b record_name) beam step))
