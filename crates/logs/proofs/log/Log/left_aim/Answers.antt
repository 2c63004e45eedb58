use Rattle.std.proofs.Common.{List, sym, ap, ◌∙◌, arith}
use Rattle.caps.specs.declared.Touch.{Touch}
use Rattle.caps.specs.declared.Line.{Line}
use Rattle.caps.specs.Outlooks.{open_summit}
use Rattle.logs.specs.Logs.{state_of}
use Rattle.logs.proofs.Tables.{count_is}
use Rattle.logs.proofs.Aiming.{left_open, left_closed}
use Rattle.logs.proofs.log.Log.left_aim.Goals as goal

pub returns-in_err-summit-clause-is : goal.returns-in_err-summit-clause-is
returns-in_err-summit-clause-is c =
    let l = c.args.self.now in
    let e = sym c.in_err-summit.was ∙ c.lowest_open.ensures.is ∙ ap (λ (line : Line). open_summit line c.view.result.touches.now l.notes.tolerance) c.view.ensures.line
    ∙ ap (λ (ts : List Touch). open_summit l.notes.line ts l.notes.tolerance) c.view.ensures.touches in
    c.from_residual.ensures ∙ left_closed (state_of l) l.sound.on_line (omega (arith, count_is l)) e

pub returns : goal.returns
returns c =
    let l = c.args.self.now in
    let e = sym c.in_ok-summit.was ∙ c.lowest_open.ensures.is ∙ ap (λ (line : Line). open_summit line c.view.result.touches.now l.notes.tolerance) c.view.ensures.line
    ∙ ap (λ (ts : List Touch). open_summit l.notes.line ts l.notes.tolerance) c.view.ensures.touches in
    let r = left_open (state_of l) l.sound.on_line c.in_ok-summit.summit e in
    record { is = r.0; free = r.1 }
