use Rattle.std.proofs.Common.{◌≡◌, Some, List, ◌++◌, length, get_or, take, drop, sym, refl, ap, ◌∙◌, arith}
use Rattle.std.proofs.lemmas.List.{length-take, get_or-take, take_all}
use Rattle.std.proofs.lemmas.Slice.{drop-append-drop}
use Rattle.surveys.specs.declared.calls.Call.TheVariants.{High}
use Rattle.surveys.specs.declared.answers.Answer.{Answer}
use Rattle.surveys.specs.States.{State, opened}
use Rattle.surveys.specs.Moments.{outcome, moment, answers_to}
use Rattle.surveys.proofs.Moments.{answers_long}
use Rattle.surveys.proofs.Figures.{worked}
use Rattle.surveys.proofs.Whole.{law_holds}
use Rattle.logs.specs.Logs.{state_of}
use Rattle.bed.proofs.Listing.{made_within, next_state, next_answers, front_is}
use Rattle.bed.proofs.work.work.Goals as goal

pub loop-i-preserved : goal.loop-i-preserved
loop-i-preserved g c =
    let R = (g.G.Gauge.meaning c.open-survey.result.gauge).reading in
    let s = state_of c.open-survey.result.log in
    let n = length c.args.answers.now in
    let cs = take (length c.args.answers.now) c.args.calls.now in
    let i = c.loop-i.i in
    let call = get_or (take c.min-room.result c.args.calls.now) i High in
    let inv = c.loop-i.invariant in
    let mid = state_of c.loop-i.survey.log in
    let there = length-take c.min-room.result c.args.calls.now in
    let made = made_within n c.args.calls.now i High (omega arith) ∙ ap Some (sym (get_or-take c.min-room.result c.args.calls.now i High (omega arith))) in (
      c.call.ensures.gauge ∙ inv.0,
      next_state R s cs i call made mid inv.1 _ (c.call.ensures.state ∙ ap (λ (u : g.row.G.Denot). (outcome (g.G.Gauge.meaning u).reading mid call).after) inv.0),
      next_answers R s cs i call made mid inv.1 c.call.result c.args.answers.now c.loop-i.answers (c.call.ensures.answer ∙ ap (λ (u : g.row.G.Denot). (outcome (g.G.Gauge.meaning u).reading mid call).answer) inv.0) (omega (arith, length-take n c.args.calls.now)) (omega arith) inv.2,
    )

pub returns : goal.returns
returns g c =
    let m0 = g.G.Gauge.meaning c.args.gauge in
    let R = (g.G.Gauge.meaning c.open-survey.result.gauge).reading in
    let s = state_of c.open-survey.result.log in
    let s0 = opened (g.G.Gauge.meaning c.args.gauge) c.args.setting.tolerance c.args.setting.limit in
    let old = c.args.answers.now in
    let cs = take (length c.args.answers.now) c.args.calls.now in
    let xs = answers_to R s cs in
    let inv = c.loop-i.invariant in
    let opens = c.open-survey.ensures in
    let cut = length-take (length c.args.answers.now) c.args.calls.now in
    let long = answers_long R s cs in
    let room = length-take c.min-room.result c.args.calls.now in
    let done : c.loop-i.i ≡ length (take (length c.args.answers.now) c.args.calls.now) = omega arith in
    let buffer = inv.2 ∙ ap (λ (u : List Answer). u ++ drop c.loop-i.i old) (take_all c.loop-i.i xs (omega arith)) ∙ ap (λ k. xs ++ drop k old) (done ∙ sym long) in
    let state_then = inv.1 ∙ ap (moment R s cs) done ∙ ap (λ (u : State). moment R u cs (length cs)) opens.state ∙ ap (λ (u : g.row.G.Denot). moment (g.G.Gauge.meaning u).reading s0 cs (length cs)) opens.gauge in
    let told = ap (take (length c.args.calls.now)) buffer ∙ front_is xs old (length c.args.calls.now) (omega arith)
    ∙ ap (λ (u : State). answers_to R u cs) opens.state ∙ ap (λ (u : g.row.G.Denot). answers_to (g.G.Gauge.meaning u).reading s0 cs) opens.gauge in
    record {
      gauge = inv.0 ∙ opens.gauge;
      law = law_holds m0 (g.G.Gauge.lawful c.args.gauge) c.args.setting.tolerance c.args.setting.limit cs (take (length c.args.calls.now) c.loop-i.answers) (state_of c.loop-i.survey.log) told state_then;
      rest = ap (drop (length c.args.calls.now)) buffer ∙ drop-append-drop (length xs) old xs (length c.args.calls.now) (omega arith) refl;
      example = worked;
    }
