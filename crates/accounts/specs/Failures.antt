-- What the functions answer that may find no memory.
use Rattle.std.specs.Prelude.{◌≡◌, ℕ, List, Ok, Err, string_bytes, Result, String}
use Rattle.std.specs.declared.alloc.Global.{Global}
use Rattle.terms.specs.declared.refusal.Refusal.{Refusal}
use Rattle.sheets.specs.declared.failure.Failure.{Failure}
use Rattle.sheets.specs.declared.failure.Failure.TheVariants.{Refused, NoMemory}
use Rattle.accounts.specs.Reports.{Lines, after_text}

-- the lines stand after the text, or the refusal is theirs; only memory can be wanting beside that
abbrev pub Puts : List ℕ → Lines → Result (Unit {0}) Failure → List ℕ → Type 0
Puts old lines (Ok t) new = after_text old lines ≡ Ok new
Puts old lines (Err (Refused r)) new = lines ≡ Err r
Puts old lines (Err NoMemory) new = Unit {0}

-- the text is the defined one, or the refusal
abbrev pub Tells : Result (List ℕ) Refusal → Result (String Global) Failure → Type 0
Tells defined (Ok s) = defined ≡ Ok (string_bytes s)
Tells defined (Err (Refused r)) = defined ≡ Err r
Tells defined (Err NoMemory) = Unit {0}
