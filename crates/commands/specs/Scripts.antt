-- An input that is read line by line.
use Rattle.std.specs.Prelude.{◌≡◌, ◌<◌, List, [], ◌∷◌, Some, None, Option}
use Rattle.commands.specs.declared.command.Command.{Command}
use Rattle.commands.specs.declared.script.Script.{Script}
use Rattle.commands.specs.Orders.{Order, order, orders_from, WordsStand}

-- the orders that are to come
abbrev pub to_come : Script → List Order
to_come s = orders_from s.input.now s.at

-- one step gives the first order to come, its words parts of the input, or none where none is to come
abbrev pub Walk : Script → Option Command → Script → Type 0
Walk s None t = (to_come s ≡ []) × (to_come t ≡ []) × (t.input.now ≡ s.input.now)
Walk s (Some c) t = (to_come s ≡ order c ∷ to_come t) × WordsStand s.input.now (order c) × (t.input.now ≡ s.input.now) × (s.at < t.at)
