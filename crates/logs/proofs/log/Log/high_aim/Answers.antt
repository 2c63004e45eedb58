use Rattle.std.proofs.Common.{Option, sym, ap, ◌∙◌}
use Rattle.caps.specs.declared.Outlook.{Outlook}
use Rattle.caps.specs.Outlooks.{settled_by}
use Rattle.logs.specs.Logs.{state_of, place_seen}
use Rattle.logs.proofs.Aiming.{high_open}
use Rattle.logs.proofs.log.Log.high_aim.Goals as goal

pub returns-clause-free : goal.returns-clause-free
returns-clause-free c =
    let l = c.args.self.now in
    let open-now = sym (c.if-is_settled.ensures ∙ ap (λ (o : Option Outlook). settled_by o l.notes.tolerance) c.look-seen.ensures) in
    (high_open (state_of l) l.sound.on_line open-now c.high_place.result (c.high_place.ensures ∙ ap place_seen c.look-seen.ensures)).1
