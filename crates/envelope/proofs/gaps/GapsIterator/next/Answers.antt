use Rattle.std.proofs.Common.{◌≡◌, ◌≤◌, List, length, get_or, ℤ, pos, nat_abs, ap, ◌∙◌, arith, w32, to_z, of_z, rules}
use borrow.Author.Differences.{ints}
use Rattle.std.specs.Int.{int_min}
use Rattle.std.proofs.lemmas.Int.{clamps}
use Rattle.caps.specs.declared.Touch.{Touch}
use Rattle.caps.specs.declared.Summit.{Summit}
use Rattle.caps.specs.Crossings.{rise}
use Rattle.envelope.proofs.Walks.{t_low, left_fits, left_small, right_small, walking_on, walking_end, summits_told, summits_skip, summits_none, all_behind, ahead_is, between_is, strip_is, ended}
use Rattle.envelope.proofs.gaps.GapsIterator.next.Goals as goal

abbrev none : Touch
none = record { position = 0; height = pos 0 }

-- A number of 32 bits that is read back.
back : (z : ℤ) → nat_abs z ≤ 2147483647 → to_z w32 (of_z w32 z) ≡ z
back z h = omega (arith, ints)

lower : (m l x : ℤ) → nat_abs l ≤ 2147483647 → nat_abs x ≤ 2147483647 → m ≡ int_min (to_z w32 (of_z w32 l)) x → to_z w32 (of_z w32 m) ≡ int_min l x
lower m l x f g e =
    let c : m ≡ int_min l x = e ∙ ap (λ z. int_min z x) (back l f) in
    back m (omega (arith, ints, clamps)) ∙ c

pub invariant_of-self : goal.invariant_of-self
invariant_of-self c =
    let s = c.loop-self.self in
    let w = s.walking in
    let n = c.loop-self-test.true in
    record {
      walking = walking_on w n none _
          (lower c.lower_rise-self.result s.left (rise s.seen.line.slope (get_or s.seen.touches.now s.at none)) (left_fits w)
          (omega (arith, t_low w n none)) c.lower_rise-self.ensures);
    }

pub ahead-requires-clause-line : goal.ahead-requires-clause-line
ahead-requires-clause-line c =
    let s = c.loop-self.self in
    let r = right_small s.walking c.loop-self-test.true in
    let b = back (get_or s.falls.now s.at (pos 0)) (omega arith) in
    omega (arith, ints)

pub returns-then-at-eq0-clause-steps : goal.returns-then-at-eq0-clause-steps
returns-then-at-eq0-clause-steps c =
    let s = c.loop-self.self in
    let w = s.walking in
    let n = c.loop-self-test.true in
    let r = right_small w n in
    let b = back (get_or s.falls.now s.at (pos 0)) (omega arith) in
    c.loop-self.invariant
    ∙ summits_told w n none c.ahead.result c.if-from-touch.true
    (ahead_is w n none c.if-from-touch.true c.ahead.result (to_z w32 (of_z w32 (get_or s.falls.now s.at (pos 0)))) c.if-at-eq0.true b c.ahead.ensures)

pub returns-then-at-eq0-clause-goes : goal.returns-then-at-eq0-clause-goes
returns-then-at-eq0-clause-goes c = let e = ap (λ (xs : List Summit). length xs) (returns-then-at-eq0-clause-steps c) in search rules

pub between-requires-clause-lines : goal.between-requires-clause-lines
between-requires-clause-lines c =
    let s = c.loop-self.self in
    let r = right_small s.walking c.loop-self-test.true in
    let l = left_small s.walking (omega (arith, c.if-at-eq0.false)) in
    let b = back (get_or s.falls.now s.at (pos 0)) (omega arith) in
    let a = back s.left (omega arith) in
    (omega (arith, ints), omega (arith, ints))

pub returns-then-from-touch-clause-steps : goal.returns-then-from-touch-clause-steps
returns-then-from-touch-clause-steps c =
    let s = c.loop-self.self in
    let w = s.walking in
    let n = c.loop-self-test.true in
    let r = right_small w n in
    let l = left_fits w in
    let b = back (get_or s.falls.now s.at (pos 0)) (omega arith) in
    let a = back s.left (omega arith) in
    c.loop-self.invariant
    ∙ summits_told w n none c.between.result c.if-from-touch.true
    (between_is w n none c.if-from-touch.true c.between.result
    (to_z w32 (of_z w32 s.left)) (to_z w32 (of_z w32 (get_or s.falls.now s.at (pos 0)))) (omega (arith, c.if-at-eq0.false)) a b c.between.ensures.place c.between.ensures.cap)

pub returns-then-from-touch-clause-goes : goal.returns-then-from-touch-clause-goes
returns-then-from-touch-clause-goes c = let e = ap (λ (xs : List Summit). length xs) (returns-then-from-touch-clause-steps c) in search rules

pub loop-self-preserved : goal.loop-self-preserved
loop-self-preserved c = c.loop-self.invariant ∙ summits_skip c.loop-self.self.walking c.loop-self-test.true none c.if-from-touch.false

pub strip-summit-requires : goal.strip-summit-requires
strip-summit-requires c =
    let s = c.loop-self.self in
    let l = left_small s.walking (all_behind s.walking c.loop-self-test.false) in
    let a = back s.left (omega arith) in
    omega (arith, ints)

pub invariant_of-self-2 : goal.invariant_of-self-2
invariant_of-self-2 c = record { walking = walking_end c.loop-self.self.walking c.loop-self-test.false }

pub returns-clause-steps : goal.returns-clause-steps
returns-clause-steps c =
    let s = c.loop-self.self in
    let w = s.walking in
    let all = c.loop-self-test.false in
    let l = left_fits w in
    let a = back s.left (omega arith) in
    ended c.strip-summit.result _ _ _ c.loop-self.invariant (strip_is w all c.strip-summit.result (to_z w32 (of_z w32 s.left)) a c.strip-summit.ensures)
    (summits_none (walking_end w all) all (omega arith))
