-- What a layer makes of the readings and the meanings below it.
use Rattle.std.specs.Prelude.{ℕ, min, cond, ℤ, Ok, Err, Result, nat_lt}
use Rattle.terms.specs.declared.fault.Raised.{Raised}
use Rattle.terms.specs.Faults.{raised, beyond, layer_name}
use Rattle.terms.specs.Meaning.{Meaning, Reading}

-- a reading whose fault has come up through one more layer
abbrev pub plain : Result ℤ Raised → Reading
plain (Ok h) = Ok h
plain (Err x) = Err x.0

-- the same reading, its fault one layer further up
abbrev pub lifted : Reading → Reading
lifted (Ok h) = Ok h
lifted (Err f) = Err (raised f)

-- the height changed by f, or the fault one layer further up
abbrev pub over : (ℤ → ℤ) → Reading → Reading
over f (Ok h) = Ok (f h)
over f (Err e) = Err (raised e)

-- two readings joined by f: a fault of the first ends the reading
abbrev pub joined : (ℤ → ℤ → ℤ) → Reading → Reading → Reading
joined f (Ok a) (Ok b) = Ok (f a b)
joined f (Ok a) (Err e) = Err (raised e)
joined f (Err e) r = Err (raised e)

-- the reading up to the last position; beyond it the fault of the gauge of that name
abbrev pub up_to : ℕ → ℕ → ℕ → Reading → Reading
up_to last name p r = cond (nat_lt last p) (Err (beyond p name)) r

-- a layer on one gauge: heights by f, slack u; last and slope stay
abbrev pub over_meaning : (ℤ → ℤ) → ℕ → Meaning → Meaning
over_meaning f u m = record { last = m.last; slope = m.slope; slack = u; reading = λ p. over f (m.reading p) }

-- a layer on two gauges: heights by f, slope s, slack u, up to the smaller last position
abbrev pub join_meaning : (ℤ → ℤ → ℤ) → ℕ → ℕ → Meaning → Meaning → Meaning
join_meaning f s u m n = record {
  last = min m.last n.last;
  slope = s;
  slack = u;
  reading = λ p. up_to (min m.last n.last) layer_name p (joined f (m.reading p) (n.reading p));
}
