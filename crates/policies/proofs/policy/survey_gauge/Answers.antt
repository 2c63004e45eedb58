use Rattle.std.proofs.Common.{◌≡◌, ◌++◌, IfOk, vec_items, Option, sym, subst}
use Rattle.terms.specs.Limits.{touches_max}
use Rattle.terms.specs.Meaning.{Meaning}
use Rattle.terms.specs.declared.refusal.Refusal.{Refusal}
use Rattle.surveys.specs.States.{State, opened, opening_refusal}
use Rattle.policies.specs.Policies.{as_list, Closed, probed, survey_text, text_unless, Ends}
use Rattle.policies.proofs.Closings.{as_asked, silent_if, ends_if}
use Rattle.policies.proofs.policy.survey_gauge.Goals as goal

pub returns-in-Ok : goal.returns-in-Ok
returns-in-Ok g c =
    let m : Meaning = g.G.Gauge.meaning c.args.gauge in
    let tolerance = c.args.tolerance in
    let set = c.in-Ok.setting in
    let asked = c.in-Ok.ensures in
    let before = g.P.Paper.said c.args.paper.now in
    let after = g.P.Paper.said c.survey_line.new.paper in
    let r = c.survey_line.result in
    record {
      text =
          subst (λ (o : Option Refusal). IfOk r (λ _. after ≡ before ++ text_unless o (survey_text m (opened m tolerance touches_max)))) (sym asked.0)
          (as_asked (λ (s : State). IfOk r (λ _. after ≡ before ++ survey_text m s)) m set.tolerance set.limit tolerance asked.1 asked.2 c.survey_line.ensures.text);
      policy =
          subst (λ (o : Option Refusal). IfOk r (λ x. Ends o m (opened m tolerance touches_max) (as_list vec_items x))) (sym asked.0)
          (as_asked (λ (s : State). IfOk r (λ x. Closed m.reading (probed m s) (as_list vec_items x))) m set.tolerance set.limit tolerance asked.1 asked.2 c.survey_line.ensures.certificate);
    }

pub returns-in-Err : goal.returns-in-Err
returns-in-Err g c = record {
  text = silent_if (g.P.Paper.said c.args.paper.now) _ (opening_refusal c.args.tolerance touches_max) c.in-Err.refusal c.in-Err.ensures;
  policy = ends_if _ _ (opening_refusal c.args.tolerance touches_max) c.in-Err.refusal c.in-Err.ensures;
}
