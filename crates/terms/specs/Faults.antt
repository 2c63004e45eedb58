-- The fault of a reading that has no height.
use Rattle.std.specs.Prelude.{ℕ, ◌+◌, min}
use Rattle.terms.specs.declared.fault.Fault.{Fault}
use Rattle.terms.specs.declared.fault.Cause.{Cause}
use Rattle.terms.specs.declared.fault.Cause.TheVariants.{Beyond, Unread}

-- the number of each cause
abbrev pub cause_number : Cause → ℕ
cause_number Beyond = 1
cause_number Unread = 2

-- the name that stands for a layer
abbrev pub layer_name : ℕ
layer_name = 0

-- the fault of the gauge of that name at p, beyond its last position
abbrev pub beyond : ℕ → ℕ → Fault
beyond p name = record { cause = Beyond; position = p; gauge = name; layers = 0 }

-- the fault of the gauge of that name at p, where it has no reading
abbrev pub unread : ℕ → ℕ → Fault
unread p name = record { cause = Unread; position = p; gauge = name; layers = 0 }

-- a fault from below, one layer further up: whole but for the number of layers, which stays at 255 once there
abbrev pub raised : Fault → Fault
raised f = record { cause = f.cause; position = f.position; gauge = f.gauge; layers = min (f.layers + 1) 255 }
