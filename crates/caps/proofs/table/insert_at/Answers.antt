use Rattle.std.proofs.Common.{◌≡◌, ◌+◌, ◌<◌, List, ◌++◌, length, get_or, take, drop, set, ap, ◌∙◌, arith}
use Rattle.std.specs.List.{insert}
use Rattle.std.proofs.lemmas.List.{get_or_default}
use Rattle.caps.proofs.Shifts.{shift_set, shift_old, shift_done}
use Rattle.caps.proofs.table.insert_at.Goals as goal

pub loop-i-preserved : goal.loop-i-preserved
loop-i-preserved g c =
    let T = c.args.items.now in
    let i = c.loop-i.i in
    let x = c.args.item in
    let within : c.loop-i.i < length c.args.items.now = omega arith in
    let same = c.loop-i.invariant.1 in (
      get_or_default c.loop-i.items i c.index-items-i.result x (omega arith)
          ∙ ap (λ (u : List g.row.T.Denot). get_or u i x) same ∙ shift_old T c.args.at x x i (omega arith) within,
      ap (λ (u : List g.row.T.Denot). set u i c.loop-i.carried) same
          ∙ ap (λ (v : g.row.T.Denot). set (take i (insert T c.args.at x) ++ drop i T) i v) c.loop-i.invariant.0
          ∙ shift_set T c.args.at x x i (omega arith) within,
    )

pub returns : goal.returns
returns g c =
    let T = c.args.items.now in
    let n = c.args.count in
    let e : c.loop-i.i ≡ c.args.count + 1 = omega arith in
    c.loop-i.invariant.1
    ∙ ap (λ j. take j (insert T c.args.at c.args.item) ++ drop j T) e
    ∙ ap (λ (u : List g.row.T.Denot). u ++ drop (n + 1) T) (shift_done T c.args.at c.args.item n (omega arith) (omega arith))
