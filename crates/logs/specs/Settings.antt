-- What a setting is tested for.
use Rattle.std.specs.Prelude.{◌≡◌, ℕ, Some, None, Ok, Err, Result}
use Rattle.terms.specs.declared.refusal.Refusal.{Refusal}
use Rattle.surveys.specs.States.{opening_refusal}
use Rattle.logs.specs.declared.setting.Setting.{Setting}

-- the setting that was asked for, or the first number that refuses it
abbrev pub SetAsAsked : ℕ → ℕ → Result Setting Refusal → Type 0
SetAsAsked tolerance limit (Ok s) = (opening_refusal tolerance limit ≡ None) × (s.tolerance ≡ tolerance) × (s.limit ≡ limit)
SetAsAsked tolerance limit (Err r) = opening_refusal tolerance limit ≡ Some r
