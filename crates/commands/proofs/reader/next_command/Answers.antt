use Rattle.commands.specs.Pieces.{piece}
use Rattle.commands.specs.Orders.{order}
use Rattle.commands.proofs.Parts.{next_order, no_order}
use Rattle.commands.proofs.Rejoins.{lines_are_the_input}
use Rattle.commands.proofs.Written.{calls_as_written, numbers_read_back}
use Rattle.commands.proofs.reader.next_command.Goals as goal

pub returns-in_err-line : goal.returns-in_err-line
returns-in_err-line c = record {
  order = no_order c.args.input.now c.args.from c.from_residual.result c.from_residual.ensures c.in_err-line.ensures;
  lines = lines_are_the_input;
  calls = calls_as_written;
  numbers = numbers_read_back;
}

pub returns : goal.returns
returns c = record {
  order = next_order c.args.input.now c.args.from (piece c.in_ok-line.line) (order c.read_line.result) c.in_ok-line.ensures c.read_line.ensures;
  lines = lines_are_the_input;
  calls = calls_as_written;
  numbers = numbers_read_back;
}
