-- What is handed out of a text: it stands at the front of the caller's buffer.
use Rattle.std.specs.Prelude.{◌≡◌, ℕ, cond, ◌⊎◌, List, ◌++◌, length, drop, nat_lt}
use Rattle.terms.specs.Refusals.{number}
use Rattle.terms.specs.declared.refusal.Refusal.TheVariants.{BufferTooShort}

-- 0 where the text fits into the buffer, else 21
abbrev pub room_number : List ℕ → List ℕ → ℕ
room_number text buffer = cond (nat_lt (length buffer) (length text)) (number BufferTooShort) 0

-- the text and then the bytes after it as they were; a buffer that is too short is left as it was
abbrev pub handed : List ℕ → List ℕ → List ℕ
handed text buffer = cond (nat_lt (length buffer) (length text)) buffer (text ++ drop (length text) buffer)

abbrev pub handed_length : List ℕ → List ℕ → ℕ → ℕ
handed_length text buffer old = cond (nat_lt (length buffer) (length text)) old (length text)

-- for want of memory the answer is 255
abbrev pub no_memory : ℕ
no_memory = 255

-- an answer, and what the caller's buffer and length were before it and are after it
pub record Handing : Type 0 where
  pub answer : ℕ
  pub buffer : List ℕ
  pub left : List ℕ
  pub held : ℕ
  pub written : ℕ

pub record Fits (text : List ℕ) (h : Handing) : Type 0 where
  pub answered : h.answer ≡ room_number text h.buffer
  pub bytes : h.left ≡ handed text h.buffer
  pub count : h.written ≡ handed_length text h.buffer h.held

pub record LacksMemory (h : Handing) : Type 0 where
  pub answered : h.answer ≡ no_memory
  pub bytes : h.left ≡ h.buffer
  pub count : h.written ≡ h.held

-- the text is handed out, or there was no memory for it and nothing is changed
abbrev pub HandedOut : List ℕ → Handing → Type 0
HandedOut text h = Fits text h ⊎ LacksMemory h
