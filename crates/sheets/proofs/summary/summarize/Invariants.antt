use Rattle.std.proofs.Common.{◌≡◌}
use Rattle.sheets.specs.Summaries.{Summarizes, summary_before}
use Rattle.sheets.proofs.summary.summarize.Given as goal

abbrev pub invariant-loop-position : goal.invariant-loop-position
invariant-loop-position g l =
    Summarizes (g.G.Gauge.meaning l.gauge) l.position l.so_far
    × (l.so_far ≡ summary_before (g.G.Gauge.meaning l.gauge) l.position)
