-- Lines put one after another are the defined ones.
use Rattle.std.proofs.Common.{◌≡◌, ℕ, List, [], ◌∷◌, ◌++◌, ℤ, Some, None, Ok, Err, Option, Result, sym, ap, ◌∙◌, subst}
use Rattle.std.specs.Result.{result_and}
use Rattle.terms.specs.declared.refusal.Refusal.{Refusal}
use Rattle.terms.specs.Meaning.{Meaning}
use Rattle.gauges.specs.declared.tent.Tent.{Tent}
use Rattle.gauges.specs.Made.{TentOf}
use Rattle.gauges.specs.Tents.{tent_meaning}
use Rattle.layers.specs.Layers.{step_verdict, coarse_meaning}
use Rattle.records.specs.Laws.{record_meaning}
use Rattle.records.specs.Verdict.{record_verdict}
use Rattle.sheets.specs.declared.failure.Failure.{Failure}
use Rattle.sheets.specs.declared.failure.Failure.TheVariants.{Refused, NoMemory}
use Rattle.accounts.specs.declared.stack.Beam.{Beam}
use Rattle.accounts.specs.Lines.{and_lines, stack_lines}
use Rattle.accounts.specs.Reports.{record_name, record_lines, Lines, with_heading, step_heading, beam_heading, coarse_lines, stepped, beam_verdict, beamed, layered, after_text, report_of}
use Rattle.accounts.specs.Failures.{Puts}

abbrev pub whole : List ℕ → Result (List ℕ) Refusal
whole text = Ok text

pub coarse_put : (old mid new : List ℕ) (m n : Meaning) (q k : ℕ) → step_verdict q ≡ Ok tt → mid ≡ old ++ step_heading q → n ≡ m → k ≡ q → new ≡ and_lines mid (stack_lines (coarse_meaning k n)) → after_text old (coarse_lines m q) ≡ Ok new
coarse_put old mid new m n q k v h e f p =
    ap (λ x. after_text old (result_and x (Ok (step_heading q ∷ stack_lines (coarse_meaning q m))))) v
    ∙ ap whole (sym (p
    ∙ ap (λ x. and_lines x (stack_lines (coarse_meaning k n))) h
    ∙ ap (λ x. and_lines (old ++ step_heading q) (stack_lines (coarse_meaning k x))) e
    ∙ ap (λ x. and_lines (old ++ step_heading q) (stack_lines (coarse_meaning x m))) f))

pub plain_put : (old new : List ℕ) (m : Meaning) (step : Option ℕ) → step ≡ None → new ≡ and_lines old (stack_lines m) → after_text old (stepped m step) ≡ Ok new
plain_put old new m step e p = ap (λ s. after_text old (stepped m s)) e ∙ ap whole (sym p)

headed : (old h new : List ℕ) (d : Lines) (r : Result (Unit {0}) Failure) → Puts (old ++ h) d r new → Puts old (with_heading h d) r new
headed old h new (Ok ls) (Ok t) p = p
headed old h new (Err e) (Ok t) p = p
headed old h new d (Err (Refused e)) p = ap (with_heading h) p
headed old h new d (Err NoMemory) p = tt

-- the tent that was made is the beam
pub beam_is : (last slope crown : ℕ) (height : ℤ) (name : ℕ) (t : Tent) → TentOf last slope crown height name t → tent_meaning t.last t.slope t.crown t.height t.name ≡ tent_meaning last slope crown height name
beam_is last slope crown height name t o =
    ap (λ x. tent_meaning x t.slope t.crown t.height t.name) o.last_is
    ∙ ap (λ x. tent_meaning last x t.crown t.height t.name) o.slope_is
    ∙ ap (λ x. tent_meaning last slope x t.height t.name) o.crown_is
    ∙ ap (λ x. tent_meaning last slope crown x t.name) o.height_is
    ∙ ap (tent_meaning last slope crown height) o.name_is

pub beam_put : (old mid new : List ℕ) (m n : Meaning) (b : Beam) (beam : Option Beam) (step : Option ℕ) (r : Result (Unit {0}) Failure) → beam ≡ Some b → beam_verdict m b ≡ Ok tt → mid ≡ old ++ beam_heading → n ≡ beamed m b → Puts mid (stepped n step) r new → Puts old (layered m beam step) r new
beam_put old mid new m n b beam step r e v h f p =
    let lines : layered m beam step ≡ with_heading beam_heading (stepped n step) =
    ap (λ o. layered m o step) e
    ∙ ap (λ x. result_and x (with_heading beam_heading (stepped (beamed m b) step))) v
    ∙ ap (λ x. with_heading beam_heading (stepped x step)) (sym f) in
    subst (λ d. Puts old d r new) (sym lines) (headed old beam_heading new (stepped n step) r (subst (λ x. Puts x (stepped n step) r new) h p))

pub report-told : (b : List ℕ) (beam : Option Beam) (step : Option ℕ) (start mid new : List ℕ) (n : Meaning) → record_verdict b record_name ≡ Ok tt → start ≡ [] → after_text start (Ok (record_lines b record_name)) ≡ Ok mid → n ≡ record_meaning b record_name → after_text mid (layered n beam step) ≡ Ok new → report_of b beam step ≡ Ok new
report-told b beam step start mid new n v z p e q =
    let first : after_text start (Ok (record_lines b record_name)) ≡ Ok mid = p in
    let told : and_lines [] (record_lines b record_name) ≡ mid = ap (λ x. and_lines x (record_lines b record_name)) (sym z) ∙ cc in
    ap (λ x. result_and x (after_text (and_lines [] (record_lines b record_name)) (layered (record_meaning b record_name) beam step))) v
    ∙ ap (λ x. after_text x (layered (record_meaning b record_name) beam step)) told
    ∙ ap (λ x. after_text mid (layered x beam step)) (sym e)
    ∙ q
