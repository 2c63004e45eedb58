-- What a line says.
use Rattle.std.specs.Prelude.{◌≡◌, ℕ, ◌+◌, ◌<◌, ◌≤◌, cond, List, [], ◌∷◌, map, length, take, drop, Some, None, codes, Option, ◌==◌}
use Rattle.std.specs.Str.{bytes_eq}
use Rattle.surveys.specs.declared.calls.Call.{Call}
use Rattle.surveys.specs.declared.calls.Call.TheVariants as call
use Rattle.commands.specs.declared.command.Command.{Command}
use Rattle.commands.specs.declared.command.Command.TheVariants as command
use Rattle.commands.specs.Pieces.{Piece, piece, StandsIn}
use Rattle.commands.specs.Lines.{space, before, lines, lines_from}
pub use Rattle.texts.specs.Numbers.{value, is_number, number_of}

-- a command with the pieces of the input that say it
pub data Order : Type 0 where
  high : Piece → Order
  left : Piece → Order
  ask : Piece → Order
  at : Piece → Piece → ℕ → Order
  run : Piece → Piece → ℕ → Order
  tol : Piece → Piece → ℕ → Order
  unknown : Piece → Order

abbrev pub order : Command → Order
order (command.High w) = high (piece w)
order (command.Left w) = left (piece w)
order (command.Ask w) = ask (piece w)
order (command.At v d n) = at (piece v) (piece d) n
order (command.Run v d n) = run (piece v) (piece d) n
order (command.Tol v d n) = tol (piece v) (piece d) n
order (command.Unknown l) = unknown (piece l)

-- a line of one word: `high`, `left` and `ask` stand alone
abbrev pub alone : Piece → Order
alone l =
    cond (bytes_eq l.bytes (codes "high")) (high l)
    (cond (bytes_eq l.bytes (codes "left")) (left l)
    (cond (bytes_eq l.bytes (codes "ask")) (ask l)
    (unknown l)))

-- a line of a word and a number: `at`, `run` and `tol` take one
abbrev pub numbered : Piece → Piece → Piece → ℕ → Order
numbered l v d n =
    cond (bytes_eq v.bytes (codes "at")) (at v d n)
    (cond (bytes_eq v.bytes (codes "run")) (run v d n)
    (cond (bytes_eq v.bytes (codes "tol")) (tol v d n)
    (unknown l)))

-- the same where what follows the word may be no number
abbrev pub perhaps_numbered : Piece → Piece → Piece → Option ℕ → Order
perhaps_numbered l v d None = unknown l
perhaps_numbered l v d (Some n) = numbered l v d n

-- what stands before and after the first space of a line, which is at n
abbrev pub before_space : Piece → ℕ → Piece
before_space l n = record { bytes = take n l.bytes; place = l.place }

abbrev pub after_space : Piece → ℕ → Piece
after_space l n = record { bytes = drop (n + 1) l.bytes; place = l.place + n + 1 }

abbrev pub spaced : Piece → ℕ → Order
spaced l n = perhaps_numbered l (before_space l n) (after_space l n) (number_of (after_space l n).bytes)

-- a line without a space is one word; else its first space ends the word
abbrev pub order_of : Piece → Order
order_of l = cond (before space l.bytes == length l.bytes) (alone l) (spaced l (before space l.bytes))

-- what the lines of an input say
abbrev pub orders : List ℕ → List Order
orders input = map order_of (lines input)

-- what the lines from place p of the input on say
abbrev pub orders_from : List ℕ → ℕ → List Order
orders_from input p = map order_of (lines_from input p)

-- the verb as it is printed
abbrev pub verb_of : Order → List ℕ
verb_of (high v) = codes "high"
verb_of (left v) = codes "left"
verb_of (ask v) = codes "ask"
verb_of (at v d n) = codes "at"
verb_of (run v d n) = codes "run"
verb_of (tol v d n) = codes "tol"
verb_of (unknown l) = codes "?"

-- the call that an order makes
abbrev pub call_of : Order → Option Call
call_of (high v) = Some call.High
call_of (left v) = Some call.Left
call_of (ask v) = Some call.Ask
call_of (at v d n) = Some (call.At n)
call_of (run v d n) = Some (call.Run n)
call_of (tol v d n) = Some (call.Tol n)
call_of (unknown l) = None

-- its words are parts of the input
abbrev pub WordsStand : List ℕ → Order → Type 0
WordsStand input (high v) = StandsIn input v
WordsStand input (left v) = StandsIn input v
WordsStand input (ask v) = StandsIn input v
WordsStand input (at v d n) = StandsIn input v × StandsIn input d
WordsStand input (run v d n) = StandsIn input v × StandsIn input d
WordsStand input (tol v d n) = StandsIn input v × StandsIn input d
WordsStand input (unknown l) = StandsIn input l

-- the first order from place p on, the place where its line ends, and that the others follow it
pub record IsNextOrder (input : List ℕ) (p : ℕ) (o : Order) (end : ℕ) : Type 0 where
  pub orders : orders_from input p ≡ o ∷ orders_from input end
  pub words : WordsStand input o
  pub onward : p < end
  pub within : end ≤ length input

abbrev pub NextOrder : List ℕ → ℕ → Option (Command × ℕ) → Type 0
NextOrder input p None = orders_from input p ≡ []
NextOrder input p (Some r) = IsNextOrder input p (order r.0) r.1
