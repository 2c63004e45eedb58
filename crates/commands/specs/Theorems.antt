-- What the lines of an input and their calls come to, in words of their own.
use Rattle.std.specs.Prelude.{◌≡◌, ℕ, ◌<◌, ◌≤◌, true, ◌↔◌, List, ◌∷◌, ◌++◌, map, length, Some, codes, decimal}
use Rattle.std.specs.List.{join_with_byte, AllByRecursion}
use Rattle.std.specs.Str.Iter.{LacksByte}
use Rattle.std.specs.Str.{all_ascii_digits}
use Rattle.surveys.specs.declared.calls.Call.{Call}
use Rattle.surveys.specs.declared.calls.Call.TheVariants.{High, Left, At, Run, Tol, Ask}
use Rattle.commands.specs.Pieces.{Piece, StandsIn}
use Rattle.commands.specs.Lines.{line_end, space, all_lines}
use Rattle.commands.specs.Orders.{value, number_of, order_of, call_of}

-- The lines of an input, the empty ones too.
pub record AreLines (input : List ℕ) (ls : List Piece) : Type 0 where
  -- put together again with a line end between each two they are the input
  pub together : join_with_byte line_end (map (λ l. l.bytes) ls) ≡ input
  -- no line has a line end in it
  pub whole : AllByRecursion (λ l. LacksByte line_end l.bytes) ls
  -- each has the bytes that the input has at its place
  pub stand : AllByRecursion (StandsIn input) ls

abbrev pub LinesAreTheInput : Type 0
LinesAreTheInput = (input : List ℕ) → AreLines input (all_lines 0 input)

-- The bytes are the verb, one space and 1 to 5 decimal digits that write n.
pub record Numbered (verb : List ℕ) (bs : List ℕ) (n : ℕ) : Type 0 where
  pub digits : List ℕ
  pub spaced : bs ≡ verb ++ space ∷ digits
  pub some : 1 ≤ length digits
  pub few : length digits ≤ 5
  pub decimal : all_ascii_digits digits ≡ true
  pub number : value digits ≡ n

-- how a call is written
abbrev pub Written : List ℕ → Call → Type 0
Written bs High = bs ≡ codes "high"
Written bs Left = bs ≡ codes "left"
Written bs Ask = bs ≡ codes "ask"
Written bs (At n) = Numbered (codes "at") bs n
Written bs (Run n) = Numbered (codes "run") bs n
Written bs (Tol n) = Numbered (codes "tol") bs n

-- A line makes a call exactly where it is written so; every other line is no command.
abbrev pub CallsAsWritten : Type 0
CallsAsWritten = (l : Piece) (c : Call) → (call_of (order_of l) ≡ Some c) ↔ Written l.bytes c

-- The decimal digits of a number below 100,000 read as that number.
abbrev pub NumbersReadBack : Type 0
NumbersReadBack = (n : ℕ) → n < 100000 → number_of (decimal n) ≡ Some n
