-- The floor is the largest touched height, at the lowest position that has it.
use Rattle.std.proofs.Common.{◌≡◌, ◌<◌, ◌≤◌, List, ◌∷◌, ℤ, ◌<ℤ◌, sym, subst, arith}
use borrow.Author.Differences.{ints}
use Rattle.std.specs.List.{ContainsAt as Has, AllByRecursion}
use Rattle.std.proofs.ByRecursion.{All-weaker, All-append, all_has_itself}
use Rattle.pick.specs.Picks.{Leads}
use Rattle.pick.proofs.Computed.{picked_picks}
use Rattle.caps.specs.declared.Touch.{Touch}
use Rattle.caps.specs.declared.Line.{Line}
use Rattle.caps.specs.Touches.{Rising, OnLine}
use Rattle.caps.specs.Caps.{floor, IsFloor}
use Rattle.caps.proofs.Lists.{order_after}
use Rattle.caps.proofs.Extremes.{first_has, below_first}

pub floor_is_highest_and_lowest : (line : Line) (a : Touch) (ts : List Touch) → OnLine line (a ∷ ts) → IsFloor (a ∷ ts) (floor a ts)
floor_is_highest_and_lowest line a ts on =
    let height : Touch → ℤ = λ t. t.height in
    let t : Touch = floor a ts in
    let l : Leads height (a ∷ ts) t = picked_picks height (a ∷ ts) in
    let W : Touch → Type 0 = λ u. u.height ≡ t.height → t.position ≤ u.position in
    let after = order_after (λ t u. t.position < u.position) l.before t l.after (subst Rising l.there on.rising) in
    record {
      touched = first_has height (Has (a ∷ ts)) a ts (all_has_itself (a ∷ ts));
      highest = below_first height a ts;
      lowest = subst (AllByRecursion W) (sym l.there)
          (All-append W l.before (t ∷ l.after)
          (All-weaker (λ u. u.height <ℤ t.height) W (λ u k e. absurd (omega (arith, ints))) l.before l.lower)
          ((λ e. omega arith), All-weaker (λ u. t.position < u.position) W (λ u k e. omega arith) l.after after));
    }
