-- The law over the calls of an input.
use Rattle.std.proofs.Common.{◌≡◌, List, [], ◌∷◌, length, Some, None, Option, refl}
use Rattle.terms.specs.Limits.{touches_max}
use Rattle.records.specs.Laws.{record_lawful}
use Rattle.surveys.specs.declared.calls.Call.{Call}
use Rattle.surveys.specs.declared.calls.Call.TheVariants.{Ask}
use Rattle.surveys.specs.States.{Readings, State}
use Rattle.surveys.specs.Moments.{outcome, moment}
use Rattle.surveys.proofs.Whole.{law_holds}
use Rattle.commands.specs.Orders.{Order, orders, call_of}
use Rattle.transcripts.specs.Told.{with_call, said, asked}
use Rattle.transcripts.specs.Transcripts.{gauge_name, start_tolerance, gauge_of, survey_of}
use Rattle.transcripts.specs.Talks.{EveryTalkKeepsTheLaw}

abbrev final : Readings → State → List Call → State
final reading s calls = moment reading s calls (length calls)

one_line : (reading : Readings) (o : Option Call) (made plain : List Call) → ((s : State) → final reading s made ≡ final reading s plain) →
    (s : State) → final reading s (with_call o (Ask ∷ made)) ≡ final reading s (with_call o plain)
one_line reading None made plain h s = h s
one_line reading (Some c) made plain h s = h (outcome reading s c).after

asks_change_nothing : (reading : Readings) (os : List Order) (s : State) → final reading s (asked os) ≡ final reading s (said os)
asks_change_nothing reading [] s = refl
asks_change_nothing reading (o ∷ os) s = one_line reading (call_of o) (asked os) (said os) (asks_change_nothing reading os) s

pub every_talk_keeps_the_law : EveryTalkKeepsTheLaw
every_talk_keeps_the_law sheet input h =
    let lawful = record_lawful sheet gauge_name h in
    record {
      calls_said = law_holds (gauge_of sheet) lawful start_tolerance touches_max (said (orders input)) _ _ refl refl;
      calls_made = law_holds (gauge_of sheet) lawful start_tolerance touches_max (asked (orders input)) _ _ refl refl;
      asks_change_nothing = asks_change_nothing (gauge_of sheet).reading (orders input) (survey_of sheet);
    }
