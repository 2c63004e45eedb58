-- Touches that a lawful gauge has read.
use Rattle.std.proofs.Common.{◌≡◌, ℕ, ◌≤◌, List, [], ℤ, Ok}
use Rattle.std.specs.List.{AllByRecursion}
use Rattle.std.proofs.ByRecursion.{All-weaker}
use Rattle.terms.specs.Meaning.{Meaning, Lawful}
use Rattle.caps.specs.declared.Touch.{Touch}
use Rattle.caps.specs.Touches.{OnLine, Agree, LawfulTouches, Untouched, insert}
use Rattle.caps.proofs.Inserts.{insert_in, insert_on_line}
use Rattle.surveys.specs.States.{State, line_of}

-- the touches lie on the gauge's line, and their heights are the gauge's
pub record Sound (m : Meaning) (ts : List Touch) : Type 0 where
  pub on_line : OnLine (line_of m) ts
  pub read : AllByRecursion (λ t. m.reading t.position ≡ Ok t.height) ts

-- a survey of that gauge
pub record SurveyOf (m : Meaning) (s : State) : Type 0 where
  pub line : s.line ≡ line_of m
  pub sound : Sound m s.touches

pub sound_none : (m : Meaning) → Sound m []
sound_none m = record { on_line = record { within = tt; rising = tt }; read = tt }

pub sound_more : (m : Meaning) (ts : List Touch) (p : ℕ) (h : ℤ) → Sound m ts → p ≤ m.last → Untouched ts p → m.reading p ≡ Ok h → Sound m (insert (record { position = p; height = h }) ts)
sound_more m ts p h sound l n e = record {
  on_line = insert_on_line (line_of m) _ ts sound.on_line l n;
  read = insert_in (λ t. m.reading t.position ≡ Ok t.height) _ ts e sound.read;
}

pub sound_lawful : (m : Meaning) → Lawful m → (ts : List Touch) → Sound m ts → LawfulTouches (line_of m) ts
sound_lawful m law ts sound =
    let R : Touch → Type 0 = λ t. m.reading t.position ≡ Ok t.height in
    let K : Touch → Touch → Type 0 = Agree (line_of m) in
    record {
      on_line = sound.on_line;
      lawful = All-weaker R (λ t. AllByRecursion (K t) ts)
          (λ t e. All-weaker R (K t) (λ u f. law.near t.position u.position t.height u.height e f) ts sound.read) ts sound.read;
    }
