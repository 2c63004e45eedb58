-- The lines of an input. A line ends at byte 0A hexadecimal or at the end of the input.
use Rattle.std.specs.Prelude.{◌≡◌, ℕ, suc, ◌+◌, ◌<◌, ◌≤◌, Bool, cond, not, List, [], ◌∷◌, length, drop, Some, None, filter, Option, ◌==◌}
use Rattle.commands.specs.declared.part.Part.{Part}
use Rattle.commands.specs.Pieces.{Piece, piece, end_of, StandsIn}

-- the byte that ends a line
abbrev pub line_end : ℕ
line_end = 0x0a

-- the byte that parts a word from what follows it
abbrev pub space : ℕ
space = 0x20

-- bytes cut at each line end: the line up to the first, and the lines after it
pub record Cut : Type 0 where
  pub first : Piece
  pub others : List Piece

-- one byte more in front, at place p: a line end closes an empty line, any other byte begins the first line
abbrev pub with_byte : ℕ → ℕ → Cut → Cut
with_byte p b c =
    cond (b == line_end)
    (record { first = record { bytes = []; place = p }; others = c.first ∷ c.others })
    (record { first = record { bytes = b ∷ c.first.bytes; place = p }; others = c.others })

-- the cut of bytes that stand from place p on
abbrev pub cut : ℕ → List ℕ → Cut
cut p [] = record { first = record { bytes = []; place = p }; others = [] }
cut p (b ∷ bs) = with_byte p b (cut (p + 1) bs)

-- all lines of bytes that stand from place p on, the empty ones too
abbrev pub all_lines : ℕ → List ℕ → List Piece
all_lines p bs = (cut p bs).first ∷ (cut p bs).others

abbrev pub is_some : Piece → Bool
is_some l = not (length l.bytes == 0)

-- empty lines are skipped
abbrev pub lines_at : ℕ → List ℕ → List Piece
lines_at p bs = filter is_some (all_lines p bs)

abbrev pub lines : List ℕ → List Piece
lines input = lines_at 0 input

-- the lines from place p of the input on, where p begins or ends a line
abbrev pub lines_from : List ℕ → ℕ → List Piece
lines_from input p = lines_at p (drop p input)

-- how many bytes stand before the first b
abbrev pub before : ℕ → List ℕ → ℕ
before b [] = 0
before b (x ∷ xs) = cond (x == b) 0 (suc (before b xs))

-- the first line from place p on, and that the others follow it
pub record IsNext (input : List ℕ) (p : ℕ) (l : Piece) : Type 0 where
  pub lines : lines_from input p ≡ l ∷ lines_from input (end_of l)
  pub stands : StandsIn input l
  pub onward : p < end_of l
  pub within : end_of l ≤ length input

abbrev pub NextLine : List ℕ → ℕ → Option Part → Type 0
NextLine input p None = lines_from input p ≡ []
NextLine input p (Some l) = IsNext input p (piece l)
