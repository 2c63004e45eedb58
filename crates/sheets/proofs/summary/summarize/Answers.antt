use Rattle.std.proofs.Common.{◌≡◌, ℕ, ◌+◌, ◌≤◌, sym, ap, ◌∙◌, subst, add-one, arith}
use Rattle.terms.specs.Meaning.{Meaning}
use Rattle.sheets.specs.Summaries.{Summarizes, with_reading, summary_before}
use Rattle.sheets.proofs.Leads.{readable_few, summarizes_more}
use Rattle.sheets.proofs.summary.summarize.Goals as goal

pub with_reading-so_far-requires : goal.with_reading-so_far-requires
with_reading-so_far-requires g c =
    let m : Meaning = g.G.Gauge.meaning c.args.gauge.now in
    let few = readable_few m c.loop-position.position in
    let most : m.last ≤ 4000 = (g.G.Gauge.lawful c.args.gauge.now).last_high in
    omega (arith, c.loop-position.invariant.0.readable, c.last-position-end.ensures)

pub loop-position-preserved : goal.loop-position-preserved
loop-position-preserved g c =
    let m : Meaning = g.G.Gauge.meaning c.args.gauge.now in
    let n : ℕ = c.loop-position.position in
    let more = summarizes_more m n c.loop-position.so_far c.loop-position.invariant.0 c.read.result (sym c.read.ensures) in (
      subst (Summarizes m (n + 1)) (sym c.with_reading-so_far.ensures) more,
      c.with_reading-so_far.ensures
          ∙ ap (λ s. with_reading s n c.read.result) c.loop-position.invariant.1
          ∙ ap (with_reading (summary_before m n) n) c.read.ensures
          ∙ ap (summary_before m) (sym (add-one n)),
    )

pub returns : goal.returns
returns g c =
    let m : Meaning = g.G.Gauge.meaning c.args.gauge.now in
    let e : c.loop-position.position ≡ m.last + 1 = omega (arith, c.last-position-end.ensures) in
    record {
      sums = subst (λ n. Summarizes m n c.loop-position.so_far) e c.loop-position.invariant.0;
      value = c.loop-position.invariant.1 ∙ ap (summary_before m) e;
    }
