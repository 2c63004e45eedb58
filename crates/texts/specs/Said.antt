-- The sheet that a text says.
use Rattle.std.specs.Prelude.{◌≡◌, ℕ, ◌+◌, cond, List, [], ◌∷◌, ℤ, pos, negsuc, neg_ℤ, Some, None, Ok, Err, vec_items, Option, Result, ◌==◌}
use Rattle.texts.specs.declared.sheet.Sheet.{Sheet}
use Rattle.texts.specs.declared.sheet.TextError.{TextError}
use Rattle.texts.specs.declared.sheet.TextError.TheVariants.{NoSlope, NoSlack, NoHeight, NoMemory}
use Rattle.texts.specs.Numbers.{number_of}

-- the byte before a number below 0, and the whole word of a position without a reading
abbrev pub dash : ℕ
dash = 45

-- stands in a list of heights for a position without a reading
abbrev pub mark : ℤ
mark = negsuc 32767

abbrev pub at_or_above_zero : Option ℕ → Option ℤ
at_or_above_zero None = None
at_or_above_zero (Some n) = Some (pos n)

abbrev pub below_zero : Option ℕ → Option ℤ
below_zero None = None
below_zero (Some n) = Some (neg_ℤ (pos n))

-- what a word says that begins with a dash: no reading where it ends there, else the number of the other bytes, negated
abbrev pub after_dash : List ℕ → Option ℤ
after_dash [] = Some mark
after_dash (b ∷ bs) = below_zero (number_of (b ∷ bs))

-- the height that a word says
abbrev pub height_of : List ℕ → Option ℤ
height_of [] = None
height_of (b ∷ bs) = cond (b == dash) (after_dash bs) (at_or_above_zero (number_of (b ∷ bs)))

-- a sheet's numbers; whether they are a lawful sheet is not asked here
pub record Figures : Type 0 where
  pub slope : ℕ
  pub slack : ℕ
  pub heights : List ℤ

abbrev pub figures : Sheet → Figures
figures s = record { slope = s.slope; slack = s.slack; heights = vec_items s.heights }

-- goes on with what a word says, where it says something
abbrev pub going_on : {A B : Type 0} → TextError → Option A → (A → Result B TextError) → Result B TextError
going_on e None next = Err e
going_on e (Some x) next = next x

abbrev pub put_first : ℤ → Result (List ℤ) TextError → Result (List ℤ) TextError
put_first h (Ok hs) = Ok (h ∷ hs)
put_first h (Err e) = Err e

-- the heights that words say, the first at position p
abbrev pub heights_said : ℕ → List (List ℕ) → Result (List ℤ) TextError
heights_said p [] = Ok []
heights_said p (w ∷ ws) = going_on (NoHeight p) (height_of w) (λ h. put_first h (heights_said (p + 1) ws))

abbrev pub with_line : ℕ → ℕ → Result (List ℤ) TextError → Result Figures TextError
with_line slope slack (Ok hs) = Ok (record { slope = slope; slack = slack; heights = hs })
with_line slope slack (Err e) = Err e

-- the number that the first word says, where there is one
abbrev pub first_number : List (List ℕ) → Option ℕ
first_number [] = None
first_number (w ∷ ws) = number_of w

-- the words after the first
abbrev pub others : List (List ℕ) → List (List ℕ)
others [] = []
others (w ∷ ws) = ws

-- the first word is the slope, the second the slack, the others are the heights
abbrev pub sheet_said : List (List ℕ) → Result Figures TextError
sheet_said ws =
    going_on NoSlope (first_number ws)
    (λ slope. going_on NoSlack (first_number (others ws))
    (λ slack. with_line slope slack (heights_said 0 (others (others ws)))))

-- the answer is the defined one, or that memory is wanting
abbrev pub Answers : {A B : Type 0} → (A → B) → Result B TextError → Result A TextError → Type 0
Answers view defined (Ok x) = defined ≡ Ok (view x)
Answers view defined (Err NoSlope) = defined ≡ Err NoSlope
Answers view defined (Err NoSlack) = defined ≡ Err NoSlack
Answers view defined (Err (NoHeight p)) = defined ≡ Err (NoHeight p)
Answers view defined (Err NoMemory) = Unit {0}
