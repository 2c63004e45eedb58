-- What the touches of a line are tested for.
use Rattle.std.specs.Prelude.{◌≡◌, List, Some, None, Option}
use Rattle.caps.specs.declared.Touch.{Touch}
use Rattle.caps.specs.declared.Line.{Line}
use Rattle.caps.specs.Touches.{Sound}
use Rattle.envelope.specs.declared.touched.Touched.{Touched}

-- the line and the touches that were asked for, or none where they are not sound
abbrev pub SeenAsAsked : Line → List Touch → Option Touched → Type 0
SeenAsAsked line ts None = Sound line ts → ⊥
SeenAsAsked line ts (Some t) = (t.line ≡ line) × (t.touches.now ≡ ts)
