-- What a survey holds beside its gauge, and what follows from it.
use Rattle.std.specs.Prelude.{ℕ, Bool, cond, ◌||◌, List, [], length, Some, None, Option, ◌==◌, nat_lt}
use Rattle.terms.specs.Limits.{tolerance_max, touches_max}
use Rattle.terms.specs.Meaning.{Meaning, Reading}
use Rattle.terms.specs.declared.refusal.Refusal.{Refusal}
use Rattle.terms.specs.declared.refusal.Refusal.TheVariants.{ToleranceOutOfRange, LimitOutOfRange}
use Rattle.caps.specs.declared.Touch.{Touch}
use Rattle.caps.specs.declared.Line.{Line}
use Rattle.caps.specs.declared.Outlook.{Outlook}
use Rattle.caps.specs.Touches.{insert}
use Rattle.caps.specs.Outlooks.{outlook, settled_by}

-- what a gauge reads at each position
abbrev pub Readings : Type 0
Readings = ℕ → Reading

-- the line of a gauge: its last position, its slope and its slack
abbrev pub line_of : Meaning → Line
line_of m = record { last = m.last; slope = m.slope; slack = m.slack }

-- A survey but for its gauge: the gauge's line, the tolerance, the touch limit, and the touches in rising order of position.
pub record State : Type 0 where
  pub line : Line
  pub tolerance : ℕ
  pub limit : ℕ
  pub touches : List Touch

-- the first number that refuses an opening: the tolerance above 40,000, then the limit 0 or above 256
abbrev pub opening_refusal : ℕ → ℕ → Option Refusal
opening_refusal tolerance limit =
    cond (nat_lt tolerance_max tolerance) (Some ToleranceOutOfRange)
    (cond (limit == 0 || nat_lt touches_max limit) (Some LimitOutOfRange) None)

-- opening touches nothing
abbrev pub opened : Meaning → ℕ → ℕ → State
opened m tolerance limit = record { line = line_of m; tolerance = tolerance; limit = limit; touches = [] }

-- the survey with one more touch, at its place in rising order
abbrev pub add : Touch → State → State
add t s = record { line = s.line; tolerance = s.tolerance; limit = s.limit; touches = insert t s.touches }

-- the survey with another tolerance
abbrev pub with_tolerance : ℕ → State → State
with_tolerance t s = record { line = s.line; tolerance = t; limit = s.limit; touches = s.touches }

-- floor and ceiling; before the first touch there is neither
abbrev pub standing : State → Option Outlook
standing s = outlook s.line s.touches

-- settled: something is touched, and ceiling ≤ floor + tolerance
abbrev pub settled : State → Bool
settled s = settled_by (standing s) s.tolerance

-- the touches equal the limit
abbrev pub full : State → Bool
full s = length s.touches == s.limit
