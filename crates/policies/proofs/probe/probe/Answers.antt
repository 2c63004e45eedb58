use Rattle.std.proofs.Common.{◌≡◌, suc, ◌≤◌, [], ◌++◌, length, sym, ap, ◌∙◌, arith}
use Rattle.surveys.specs.States.{State}
use Rattle.surveys.specs.Calls.{high}
use Rattle.logs.specs.declared.log.Log.{Log}
use Rattle.logs.specs.Logs.{state_of}
use Rattle.logs.proofs.Tables.{count_is}
use Rattle.policies.specs.Probes.{room, made_text}
use Rattle.policies.proofs.Highs.{less, accepted, kept, left, all_said}
use Rattle.policies.proofs.probe.probe.Goals as goal

pub loop-touch-smaller : goal.loop-touch-smaller
loop-touch-smaller g c =
    let R = (g.G.Gauge.meaning c.args.survey.now.gauge).reading in
    let log = c.loop-touch.survey.log in
    let s = state_of c.loop-touch.survey.log in
    let inv = c.loop-touch.invariant in
    let few : length (state_of c.loop-touch.survey.log).touches ≤ c.loop-touch.survey.log.notes.limit = omega (arith, count_is log, log.within) in
    let e = c.in-Ok.ensures.answer ∙ ap (λ (u : g.row.G.Denot). (high (g.G.Gauge.meaning u).reading s).answer) inv.0 in
    let n = c.high.ensures.state ∙ ap (λ (u : g.row.G.Denot). (high (g.G.Gauge.meaning u).reading s).after) inv.0 in
    let one : room s ≡ suc (room (state_of c.high.new.self.log)) = less R s [] s [] c.in-Ok.touch few e ∙ ap (λ (x : State). suc (room x)) (sym n) in
    omega (arith, one)

pub loop-touch-preserved : goal.loop-touch-preserved
loop-touch-preserved g c =
    let R = (g.G.Gauge.meaning c.args.survey.now.gauge).reading in
    let log = c.loop-touch.survey.log in
    let s = state_of c.loop-touch.survey.log in
    let inv = c.loop-touch.invariant in
    let few : length (state_of c.loop-touch.survey.log).touches ≤ c.loop-touch.survey.log.notes.limit = omega (arith, count_is log, log.within) in
    let e = c.in-Ok.ensures.answer ∙ ap (λ (u : g.row.G.Denot). (high (g.G.Gauge.meaning u).reading s).answer) inv.0 in
    let n = c.high.ensures.state ∙ ap (λ (u : g.row.G.Denot). (high (g.G.Gauge.meaning u).reading s).after) inv.0 in
    let said = g.P.Paper.said c.loop-touch.paper in
    let m = c.in_ok-tell_touch-in-Ok.ensures ∙ ap (λ (l : Log). said ++ made_text (state_of l) c.in-Ok.touch) c.log.ensures in
    (c.high.ensures.gauge ∙ inv.0, accepted R (state_of c.args.survey.now.log) (g.P.Paper.said c.args.paper.now) s said c.in-Ok.touch _ _ few e n m inv.1)

pub returns-in-Err : goal.returns-in-Err
returns-in-Err g c =
    let R = (g.G.Gauge.meaning c.args.survey.now.gauge).reading in
    let start = state_of c.args.survey.now.log in
    let before = g.P.Paper.said c.args.paper.now in
    let s = state_of c.loop-touch.survey.log in
    let said = g.P.Paper.said c.loop-touch.paper in
    let inv = c.loop-touch.invariant in
    let why = c.in-Err.refusal in
    let e = c.in-Err.ensures.answer ∙ ap (λ (u : g.row.G.Denot). (high (g.G.Gauge.meaning u).reading s).answer) inv.0 in
    let same = c.high.ensures.state ∙ ap (λ (u : g.row.G.Denot). (high (g.G.Gauge.meaning u).reading s).after) inv.0 ∙ kept R start before s said why e in
    record {
      gauge = c.high.ensures.gauge ∙ inv.0;
      state = same ∙ left R start before s said why e inv.1;
      refusal = ap (λ (x : State). (high R x).answer) same ∙ sym e;
      told = all_said R start before s said why e inv.1;
    }
