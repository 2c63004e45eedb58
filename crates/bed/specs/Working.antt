-- A list of calls whose answers go to the front of a buffer.
use Rattle.std.specs.Prelude.{List, length, take}
use Rattle.terms.specs.Meaning.{Meaning}
use Rattle.surveys.specs.declared.calls.Call.{Call}
use Rattle.surveys.specs.declared.answers.Answer.{Answer}
use Rattle.surveys.specs.Laws.{Work}
use Rattle.logs.specs.declared.setting.Setting.{Setting}

-- as many of the calls as the buffer has room for, and the answers that stand in it afterwards
abbrev pub worked : Meaning → Setting → List Call → List Answer → List Answer → Work
worked m s calls before after = record { gauge = m; tolerance = s.tolerance; limit = s.limit; calls = take (length before) calls; answers = take (length calls) after }
