-- Parts of an input.
use Rattle.std.specs.Prelude.{◌≡◌, ℕ, ◌+◌, List, length, take, drop}
use Rattle.commands.specs.declared.part.Part.{Part}

-- some bytes, and the place of the first in the input
pub record Piece : Type 0 where
  pub bytes : List ℕ
  pub place : ℕ

abbrev pub piece : Part → Piece
piece p = record { bytes = p.bytes.now; place = p.place }

-- the place after its last byte
abbrev pub end_of : Piece → ℕ
end_of l = l.place + length l.bytes

-- its bytes are those that the input has at its place
abbrev pub StandsIn : List ℕ → Piece → Type 0
StandsIn input l = l.bytes ≡ take (length l.bytes) (drop l.place input)
