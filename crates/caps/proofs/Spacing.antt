-- How many positions lie apart, and how far from the touches a high cap is.
use Rattle.std.proofs.Common.{◌≡◌, ℕ, zero, suc, ◌+◌, ◌-◌, ◌*◌, ◌/◌, ◌<◌, ◌≤◌, cond, ltb, ◌≢◌, List, [], ◌∷◌, length, pos, ◌+ℤ◌, ◌≤ℤ◌, ◌<ℤ◌, refl, ap, mul-le-mul_left, arith}
use native.Mathlib.Nat.{lt-div-mul-add, div-eq_of_lt}
use borrow.Author.Differences.{ints}
use Rattle.std.specs.List.{AllByRecursion}
use Rattle.std.proofs.ByRecursion.{All-weaker}
use Rattle.std.proofs.lemmas.Nat.{div_below}
use Rattle.std.proofs.lemmas.Bool.Decides.{nat_tests}
use Rattle.terms.specs.Meaning.{distance}
use Rattle.caps.specs.declared.Touch.{Touch}
use Rattle.caps.specs.declared.Line.{Line}
use Rattle.caps.specs.Touches.{LawfulTouches}
use Rattle.caps.specs.Caps.{cap, floor, Apart, spacing, most_touches}
use Rattle.caps.proofs.Lists.{all_zip}
use Rattle.caps.proofs.Extremes.{least_below, below_first}
use Rattle.caps.proofs.Extension.{from, extension}
use Rattle.caps.proofs.Room.{room_self, room_apart, distance_pos}
use Rattle.caps.proofs.Possible.{R, cap_is}

-- How many of the positions lie below n.
abbrev below : ℕ → List ℕ → ℕ
below n [] = 0
below n (p ∷ ps) = cond (ltb p n) 1 0 + below n ps

-- A position in n .. n + d - 1 leaves no room there for one that is d away.
none_more : (d n p : ℕ) (ps : List ℕ) → n ≤ p → p < n + d → AllByRecursion (λ q. d ≤ distance p q) ps → below (n + d) ps ≡ below n ps
unfolding distance
none_more d n p [] l k h = refl
none_more d n p (q ∷ ps) l k h = let r = none_more d n p ps l k h.1 in let f = h.0 in grind (arith, nat_tests)

one_window : (d n : ℕ) (ps : List ℕ) → Apart d ps → below (n + d) ps ≤ below n ps + 1
one_window d n [] h = omega arith
one_window d n (p ∷ ps) h =
    let r = one_window d n ps h.1 in
    let s : n ≤ p → p < n + d → below (n + d) ps ≡ below n ps = λ l k. none_more d n p ps l k h.0 in
    grind (arith, nat_tests)

none_below : (ps : List ℕ) → below 0 ps ≡ 0
none_below [] = refl
none_below (p ∷ ps) = let r = none_below ps in grind (arith, nat_tests)

windows : (d k : ℕ) (ps : List ℕ) → Apart d ps → below (k * d) ps ≤ k
windows d zero ps h = let e : below (0 * d) ps ≡ below 0 ps = ap (λ n. below n ps) (omega arith) in omega (arith, none_below ps)
windows d (suc k) ps h =
    let r = windows d k ps h in
    let e : below (suc k * d) ps ≡ below (k * d + d) ps = ap (λ n. below n ps) (omega arith) in
    omega (arith, one_window d (k * d) ps h)

all_below : (n : ℕ) (ps : List ℕ) → AllByRecursion (λ p. p < n) ps → below n ps ≡ length ps
all_below n [] h = refl
all_below n (p ∷ ps) h = let r = all_below n ps h.1 in let l = h.0 in grind (arith, nat_tests)

apart_few : (last d : ℕ) (ps : List ℕ) → 0 < d → AllByRecursion (λ p. p ≤ last) ps → Apart d ps → length ps ≤ last / d + 1
apart_few last d ps positive within apart =
    let k : ℕ = last / d + 1 in
    let l : last < k * d = omega (arith, lt-div-mul-add {a = last} positive) in
    omega (arith, windows d k ps apart, all_below (k * d) ps (All-weaker (λ p. p ≤ last) (λ p. p < k * d) (λ p h. omega arith) ps within))

pub few_lie_apart : (line : Line) (tolerance : ℕ) (ps : List ℕ) → AllByRecursion (λ p. p ≤ line.last) ps → Apart (spacing line tolerance) ps → length ps ≤ most_touches line tolerance
few_lie_apart line tolerance ps within apart = apart_few line.last (spacing line tolerance) ps (omega arith) within apart

pub high_cap_is_far : (line : Line) (a : Touch) (ts : List Touch) (tolerance : ℕ) → 1 ≤ line.slope → LawfulTouches line (a ∷ ts) →
    (x : ℕ) → ((floor a ts).height +ℤ pos tolerance) <ℤ cap line (a ∷ ts) x → AllByRecursion (λ t. spacing line tolerance ≤ distance t.position x) (a ∷ ts)
high_cap_is_far line a ts tolerance positive h x high =
    let r : ℕ → ℕ → ℕ = R line in
    all_zip (λ t. extension r a ts x ≤ℤ from r x t) (λ t. t.height ≤ℤ (floor a ts).height) (λ t. spacing line tolerance ≤ distance t.position x)
    (λ t e f.
    let over : tolerance < r t.position x = omega (arith, ints, cap_is line a ts h x) in
    let ne : t.position ≢ x = λ q. let z : r t.position x ≡ r x x = ap (λ p. r p x) q in omega (arith, room_self line.slope line.slack x) in
    let m = mul-le-mul_left line.slope (distance_pos t.position x ne) in
    omega (arith, div_below (tolerance - line.slack) line.slope (distance t.position x) positive (omega (arith, room_apart line.slope line.slack t.position x ne))))
    (a ∷ ts) (least_below (from r x) a ts) (below_first (λ t. t.height) a ts)

pub spacing_of_one : (line : Line) (tolerance : ℕ) → 1 ≤ line.slope → tolerance ≤ line.slack → spacing line tolerance ≡ 1
spacing_of_one line tolerance positive h = omega (arith, div-eq_of_lt {n = tolerance - line.slack} {m = line.slope} (omega arith))
