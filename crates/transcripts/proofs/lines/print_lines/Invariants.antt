use Rattle.std.proofs.Common.{◌≡◌, ◌++◌, length, string_bytes}
use Rattle.commands.specs.Orders.{orders}
use Rattle.commands.specs.Scripts.{to_come}
use Rattle.transcripts.specs.Told.{asked, lines_told}
use Rattle.transcripts.proofs.lines.print_lines.Given as goal

abbrev pub invariant-loop-command : goal.invariant-loop-command
invariant-loop-command l =
    (length (asked (to_come l.command-iterator)) ≡ length l.left)
    × (string_bytes l.out ++ lines_told (to_come l.command-iterator) l.left ≡ lines_told (orders l.input) l.answers)
