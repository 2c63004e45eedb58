use Rattle.std.proofs.Common.{◌≡◌, ◌-◌, length}
use Rattle.envelope.specs.Rest.{rest}
use Rattle.envelope.proofs.gaps.GapsIterator.next.Given as goal

abbrev pub invariant-loop-self : goal.invariant-loop-self
invariant-loop-self l = rest l.initial.self ≡ rest l.self

abbrev pub decreases-loop-self : goal.decreases-loop-self
decreases-loop-self l = length l.self.seen.touches.now - l.self.at
