-- What the makings of gauges leave in them.
use Rattle.std.specs.Prelude.{◌≡◌, ℕ, ℤ}
use Rattle.gauges.specs.declared.tent.Tent.{Tent}

-- the tent of these figures
pub record TentOf (last slope crown : ℕ) (height : ℤ) (name : ℕ) (t : Tent) : Type 0 where
  pub last_is : t.last ≡ last
  pub slope_is : t.slope ≡ slope
  pub crown_is : t.crown ≡ crown
  pub height_is : t.height ≡ height
  pub name_is : t.name ≡ name
