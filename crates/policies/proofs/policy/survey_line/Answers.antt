use Rattle.std.proofs.Common.{◌≡◌, ◌++◌, Err, vec_items, ap, ◌∙◌}
use Rattle.surveys.specs.States.{opened}
use Rattle.logs.specs.declared.log.Log.{Log}
use Rattle.logs.specs.Logs.{state_of}
use Rattle.policies.specs.Lines.{known_text}
use Rattle.policies.specs.Policies.{as_list, certificate_told}
use Rattle.policies.proofs.Closings.{closes, printed, answered}
use Rattle.policies.proofs.policy.survey_line.Goals as goal

pub returns : goal.returns
returns g c =
    let m = g.G.Gauge.meaning c.args.gauge in
    let s = opened (g.G.Gauge.meaning c.args.gauge) c.args.setting.tolerance c.args.setting.limit in
    let R = (g.G.Gauge.meaning c.open-survey.result.gauge).reading in
    let start = state_of c.open-survey.result.log in
    let after = state_of c.probe.new.survey.log in
    let same = ap (λ (u : g.row.G.Denot). (g.G.Gauge.meaning u).reading) c.open-survey.ensures.gauge in
    let opens = c.open-survey.ensures.state in
    let probes = c.in_ok-stop.ensures in
    let mid = g.P.Paper.said c.probe.new.paper in
    let known = c.in_ok-print_known.ensures ∙ ap (λ (l : Log). mid ++ known_text (state_of l)) c.log-2.ensures in
    let told = closes R after c.in_ok-stop.stop (as_list vec_items c.in_ok-certificate.certificate) probes.refusal
    (λ e. c.in_ok-certificate.ensures.settled e ∙ ap (λ (l : Log). certificate_told (state_of l)) c.log.ensures)
    (λ e.
    let q = c.in_ok-certificate.ensures.refused e in
    let r : c.in_ok-certificate.certificate ≡ Err c.in_ok-stop.stop = cc q in
    ap (as_list vec_items) r) in
    record {
      text = printed m s R start after same opens probes.state (g.P.Paper.said c.args.paper.now) mid _ probes.told known;
      certificate = answered m s R start after same opens probes.state c.in_ok-stop.stop _ probes.refusal told;
    }
