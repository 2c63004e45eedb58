use Rattle.std.proofs.Common.{None, ◌∙◌}
use Rattle.commands.specs.Pieces.{piece}
use Rattle.commands.specs.Orders.{order}
use Rattle.commands.proofs.Reading.{order_alone, order_spaced, order_numbered}
use Rattle.commands.proofs.reader.read_line.Goals as goal

pub returns-in_default : goal.returns-in_default
returns-in_default c = c.read_alone.ensures ∙ order_alone (piece c.args.line) c.in_default.ensures

pub returns-in_default-number_said : goal.returns-in_default-number_said
returns-in_default-number_said c =
    order_spaced (piece c.args.line) c.in-Some.n c.in-Some.ensures (piece c.rest_of-digits.result) None c.rest_of-digits.ensures c.in_default-number_said.ensures

pub returns : goal.returns
returns c =
    order_numbered (piece c.args.line) c.in-Some.n c.in-Some.ensures (order c.read_numbered.result) (piece c.first_word.result) (piece c.rest_of-digits.result) c.in-Some-number_said.number c.first_word.ensures c.rest_of-digits.ensures c.in-Some-number_said.ensures c.read_numbered.ensures
