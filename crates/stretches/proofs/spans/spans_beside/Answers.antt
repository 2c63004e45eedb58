use Rattle.std.proofs.Common.{◌≤◌, pos, vec_items, ap, ◌∙◌, rules}
use Rattle.caps.specs.declared.Touch.{Touch}
use Rattle.std.proofs.ByRecursion.{All-get_or}
use Rattle.stretches.proofs.Walked.{told_same, skipped, took, ended, ended_by_strip}
use Rattle.stretches.proofs.spans.spans_beside.Goals as goal
use Rattle.stretches.proofs.spans.spans_beside.Goals.{in-Some+in_ok-push_span, in_default, in-Some-strip_end+in_ok-push_span-2, in_default-strip_end}

abbrev none : Touch
none = record { position = 0; height = pos 0 }

pub overflow_add-from : goal.overflow_add-from
overflow_add-from c =
    let s = c.args.seen.now.sound in
    let l = s.limits.last_high in
    let p = All-get_or (λ t. t.position ≤ c.args.seen.now.line.last) c.args.seen.now.touches.now c.loop-touch.touch-index none c.loop-touch-test.true s.on_line.within in
    search rules

pub loop-touch-preserved : goal.loop-touch-preserved
loop-touch-preserved c =
    let line = c.args.seen.now.line in
    let ts = c.args.seen.now.touches.now in
    let i = c.loop-touch.touch-index in
    let lo = c.loop-touch.from in
    let n = c.loop-touch-test.true in
    let so_far = c.loop-touch.invariant in
    elim c.match-end_before.branch [
      | in-Some+in_ok-push_span w ↦
          told_same line ts _ _ _ _ _ _ w.gaps-is (ap vec_items w.spans-is) (took line ts lo _ _ i none n so_far w.in-Some.to w.in-Some.ensures w.next.result _ w.next.ensures.steps _ w.in_ok-push_span.ensures)
      | in_default w ↦ told_same line ts _ _ _ _ _ _ w.gaps-is (ap vec_items w.spans-is) (skipped line ts lo _ _ i none n so_far w.in_default.ensures)
    ]

pub returns : goal.returns
returns c =
    let line = c.args.seen.now.line in
    let ts = c.args.seen.now.touches.now in
    let i = c.loop-touch.touch-index in
    let lo = c.loop-touch.from in
    let all = c.loop-touch-test.false in
    let so_far = c.loop-touch.invariant in
    elim c.match-strip_end.branch [
      | in-Some-strip_end+in_ok-push_span-2 w ↦
          ap vec_items w.spans-is
          ∙ ended_by_strip line ts lo _ _ i all so_far w.in-Some-strip_end.to w.in-Some-strip_end.ensures w.next-in-Some-strip_end.result _ w.next-in-Some-strip_end.ensures.steps _ w.in_ok-push_span-2.ensures
      | in_default-strip_end w ↦ ap vec_items w.spans-is ∙ ended line ts lo _ _ i all so_far w.in_default-strip_end.ensures
    ]
