use Rattle.std.proofs.Common.{◌≡◌, Ok, sym, ap, ◌∙◌, subst, arith}
use Rattle.std.proofs.lemmas.Int.{ints}
use Rattle.terms.specs.Meaning.{Height}
use Rattle.logs.specs.Logs.{state_of}
use Rattle.bed.proofs.Touching.{word, answer_is, state_is}
use Rattle.bed.proofs.survey.touches.touch.Goals as goal

pub overflow_cast-touch : goal.overflow_cast-touch
overflow_cast-touch g c =
    let h = (g.G.Gauge.lawful c.args.gauge.now).heights c.from.result c.in_ok-height.height (sym c.read.ensures ∙ c.in_ok-height.was) in
    let low = h.low in
    let high = h.high in
    omega (arith, ints)

pub insert-requires : goal.insert-requires
insert-requires g c =
    let h = (g.G.Gauge.lawful c.args.gauge.now).heights c.from.result c.in_ok-height.height (sym c.read.ensures ∙ c.in_ok-height.was) in
    record { room = c.requires.room; free = c.requires.free; height = subst Height (sym (word c.in_ok-height.height h)) h }

pub returns : goal.returns
returns g c =
    let m = g.G.Gauge.meaning c.args.gauge.now in
    let h = (g.G.Gauge.lawful c.args.gauge.now).heights c.from.result c.in_ok-height.height (sym c.read.ensures ∙ c.in_ok-height.was) in
    let q : Ok c.in_ok-height.height ≡ (g.G.Gauge.meaning c.args.gauge.now).reading c.args.position =
    sym c.in_ok-height.was ∙ c.read.ensures ∙ ap (g.G.Gauge.meaning c.args.gauge.now).reading c.from.ensures in
    let w = word c.in_ok-height.height h in
    record {
      answer = answer_is c.args.position c.in_ok-height.height _ (m.reading c.args.position) w q;
      state = state_is c.args.position c.in_ok-height.height _ (m.reading c.args.position) (state_of c.args.log.now) (state_of c.insert.new.self) w q c.insert.ensures;
    }
