use Rattle.std.proofs.Common.{refl}
use Rattle.commands.proofs.Lines.{no_line, next_cut}
use Rattle.commands.proofs.reader.next_line.Goals as goal

pub returns-in_err-place : goal.returns-in_err-place
returns-in_err-place c = rw c.from_residual.ensures (no_line c.args.input.now c.args.from _ refl c.in_err-place.ensures)

pub returns : goal.returns
returns c = next_cut c.args.input.now c.args.from _ refl c.in_ok-place.field-0 c.in_ok-place.ensures _ c.line_end.result c.unwrap_or-length.result refl c.line_end.ensures c.unwrap_or-length.ensures
