-- Heights read one word after another.
use Rattle.std.proofs.Common.{List, ◌++◌, ℤ, Ok, Err, Result}
use Rattle.texts.specs.declared.sheet.TextError.{TextError}

-- heights that follow others
abbrev pub onto : List ℤ → Result (List ℤ) TextError → Result (List ℤ) TextError
onto hs (Ok more) = Ok (hs ++ more)
onto hs (Err e) = Err e
