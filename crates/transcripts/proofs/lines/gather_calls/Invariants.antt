use Rattle.std.proofs.Common.{◌≡◌, ◌++◌, vec_items}
use Rattle.commands.specs.Orders.{orders}
use Rattle.commands.specs.Scripts.{to_come}
use Rattle.transcripts.specs.Told.{asked}
use Rattle.transcripts.proofs.lines.gather_calls.Given as goal

abbrev pub invariant-loop-command : goal.invariant-loop-command
invariant-loop-command l = vec_items l.calls ++ asked (to_come l.command-iterator) ≡ asked (orders l.input)
