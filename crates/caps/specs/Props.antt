-- That items stand in order has at most one proof.
use Rattle.std.specs.Prelude.{List, [], ◌∷◌}
use Rattle.std.specs.Coded.{×_prop, Unit-prop}
use Rattle.std.specs.List.{AllByRecursion-prop}
use Rattle.caps.specs.Touches.{InOrder}

pub InOrder-prop : {X : Type 0} (R : X → X → Type 0) → ((x y : X) → IsProp (R x y)) → (xs : List X) → IsProp (InOrder R xs)
InOrder-prop R one [] = Unit-prop
InOrder-prop R one (x ∷ xs) = ×_prop (AllByRecursion-prop (R x) (one x) xs) (InOrder-prop R one xs)
