use Rattle.std.proofs.Common.{drop}
use Rattle.caps.specs.Places.{AllFollow}
use Rattle.caps.proofs.sound.do_follow.Given as goal

abbrev pub invariant-loop-touch : goal.invariant-loop-touch
invariant-loop-touch l =
    (AllFollow l.line 0 l.touches → AllFollow l.line l.from (drop l.touch-index l.touches)) ×
    (AllFollow l.line l.from (drop l.touch-index l.touches) → AllFollow l.line 0 l.touches)
