use Rattle.std.proofs.Common.{sym, ap, ◌∙◌, arith}
use Rattle.surveys.specs.declared.answers.Course.{Course}
use Rattle.surveys.specs.declared.answers.Stop.{Stop}
use Rattle.surveys.specs.Calls.{Outcome, stopped}
use Rattle.logs.specs.Logs.{state_of}
use Rattle.bed.proofs.Running.{run_stops, run_goes_on, run_faults, below}
use Rattle.bed.proofs.survey.runs.repeat_high.Goals as goal

pub loop-position-preserved : goal.loop-position-preserved
loop-position-preserved g c =
    let R = (g.G.Gauge.meaning c.args.gauge.now).reading in
    let s = state_of c.loop-position.log in
    let inv = c.loop-position.invariant in
    let k = c.loop-position.made in
    let n = c.args.budget in
    let less = below R s k n c.in-Ok.position c.in-Ok.ensures.is inv.0 in (
      omega arith,
      inv.1 ∙ run_goes_on R s k n c.in-Ok.position c.in-Ok.ensures.is inv.0 c.in_default.field-0 (state_of c.touch.new.log) c.in_default.ensures.answer c.touch.ensures.state,
    )

pub returns-in-Err-touch : goal.returns-in-Err-touch
returns-in-Err-touch g c =
    let R = (g.G.Gauge.meaning c.args.gauge.now).reading in
    let s = state_of c.loop-position.log in
    let k = c.loop-position.made in
    let inv = c.loop-position.invariant in
    let all = run_faults R s k c.args.budget c.in-Ok.position c.in-Ok.ensures.is inv.0 c.in-Err-touch.fault (state_of c.touch.new.log) c.in-Err-touch.ensures.answer c.touch.ensures.state ∙ sym inv.1 in
    record {
      answer = c.course.ensures ∙ ap (λ (x : Stop). (stopped k x s).answer) c.from.ensures ∙ ap (λ (o : Outcome Course). o.answer) all;
      state = ap (λ (o : Outcome Course). o.after) all;
    }

pub returns-in-Err : goal.returns-in-Err
returns-in-Err g c =
    let R = (g.G.Gauge.meaning c.args.gauge.now).reading in
    let s = state_of c.loop-position.log in
    let inv = c.loop-position.invariant in
    let all = run_stops R s c.loop-position.made c.args.budget c.in-Err.stop c.in-Err.ensures.is ∙ sym inv.1 in
    record { answer = c.course-in-Err.ensures ∙ ap (λ (o : Outcome Course). o.answer) all; state = ap (λ (o : Outcome Course). o.after) all }
