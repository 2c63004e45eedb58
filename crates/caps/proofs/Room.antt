-- Distance on the line, and by how much heights may differ: a distance too.
use Rattle.std.proofs.Common.{◌≡◌, ℕ, ◌+◌, ◌*◌, ◌≤◌, cond, eqb, ◌≢◌, mul-le-mul_left, arith}
use Rattle.std.proofs.lemmas.Bool.Decides.{nat_tests}
use Rattle.terms.specs.Meaning.{distance}

pub distance_same : (x y : ℕ) → distance x y ≡ distance y x
unfolding distance
distance_same x y = omega arith

pub distance_tri : (x y z : ℕ) → distance x z ≤ distance x y + distance y z
unfolding distance
distance_tri x y z = omega arith

pub distance_pos : (x y : ℕ) → x ≢ y → 1 ≤ distance x y
unfolding distance
distance_pos x y n = omega arith

unfoldable pub room : ℕ → ℕ → ℕ → ℕ → ℕ
room slope slack x y = cond (eqb x y) 0 (slope * distance x y + slack)

pub room_self : (slope slack x : ℕ) → room slope slack x x ≡ 0
unfolding room
room_self slope slack x = grind (arith, nat_tests)

pub room_apart : (slope slack x y : ℕ) → x ≢ y → room slope slack x y ≡ slope * distance x y + slack
unfolding room
room_apart slope slack x y h = grind (arith, nat_tests)

pub room_same : (slope slack x y : ℕ) → room slope slack x y ≡ room slope slack y x
unfolding room
room_same slope slack x y = grind (arith, nat_tests, distance_same)

pub room_tri : (slope slack x y z : ℕ) → room slope slack x z ≤ room slope slack x y + room slope slack y z
unfolding room
room_tri slope slack x y z = let m = mul-le-mul_left slope (distance_tri x y z) in grind (arith, nat_tests)

pub room_within : (slope slack x y : ℕ) → room slope slack x y ≤ slope * distance x y + slack
unfolding room
room_within slope slack x y = grind (arith, nat_tests)
