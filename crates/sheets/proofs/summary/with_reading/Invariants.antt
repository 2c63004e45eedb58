use Rattle.std.proofs.Common.{neg_ℤ}
use Rattle.sheets.specs.Summaries.{itself}
use Rattle.sheets.proofs.summary.with_reading.Given as goal

abbrev pub ghost-led : goal.ghost-led
ghost-led a = neg_ℤ

abbrev pub ghost-led-2 : goal.ghost-led-2
ghost-led-2 a = itself
