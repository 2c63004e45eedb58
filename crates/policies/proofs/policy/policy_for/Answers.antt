use Rattle.std.proofs.Common.{◌≡◌, ◌++◌, IfOk, vec_items, Option, sym, ap, subst}
use Rattle.terms.specs.Limits.{touches_max}
use Rattle.terms.specs.declared.refusal.Refusal.{Refusal}
use Rattle.heights.specs.Verdicts.{Verdict}
use Rattle.terms.specs.Meaning.{Meaning}
use Rattle.surveys.specs.States.{opened, opening_refusal}
use Rattle.policies.specs.Policies.{as_list, survey_text, gauge_of, start_of, early, refused_early, text_unless, Ends}
use Rattle.policies.proofs.Closings.{of_record, silent_if, ends_if}
use Rattle.policies.proofs.policy.policy_for.Goals as goal

pub returns-in-Err : goal.returns-in-Err
returns-in-Err g c =
    let o = refused_early c.args.bytes.now c.args.tolerance in
    let e = ap (λ (v : Verdict). early v (opening_refusal c.args.tolerance touches_max)) (sym c.in-Err.ensures) in
    record { text = silent_if (g.P.Paper.said c.args.paper.now) _ o c.in-Err.refusal e; policy = ends_if _ _ o c.in-Err.refusal e }

pub returns-in-Ok : goal.returns-in-Ok
returns-in-Ok g c =
    let sheet = c.args.bytes.now in
    let tolerance = c.args.tolerance in
    let before = g.P.Paper.said c.args.paper.now in
    let after = g.P.Paper.said c.survey_gauge.new.paper in
    let r = c.survey_gauge.result in
    let gauge = c.new.result in
    let opening = opening_refusal c.args.tolerance touches_max in
    let e = ap (λ (v : Verdict). early v (opening_refusal c.args.tolerance touches_max)) c.in-Ok.ensures in
    record {
      text = subst (λ (o : Option Refusal). IfOk r (λ _. after ≡ before ++ text_unless o (survey_text (gauge_of sheet) (start_of sheet tolerance)))) e
          (of_record (λ (m : Meaning). IfOk r (λ _. after ≡ before ++ text_unless opening (survey_text m (opened m tolerance touches_max)))) gauge.bytes.now sheet gauge.name c.new.ensures.0 c.new.ensures.1 c.survey_gauge.ensures.text);
      policy = subst (λ (o : Option Refusal). IfOk r (λ x. Ends o (gauge_of sheet) (start_of sheet tolerance) (as_list vec_items x))) e
          (of_record (λ (m : Meaning). IfOk r (λ x. Ends opening m (opened m tolerance touches_max) (as_list vec_items x))) gauge.bytes.now sheet gauge.name c.new.ensures.0 c.new.ensures.1 c.survey_gauge.ensures.policy);
    }
