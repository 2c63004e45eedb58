-- The touches of a line.
use Rattle.std.specs.Prelude.{ℕ, ◌<◌, ◌≤◌, Bool, true, false, cond, ◌≢◌, List, [], ◌∷◌, length, ◌==◌, nat_lt}
use Rattle.std.specs.List.{AllByRecursion}
use Rattle.terms.specs.Limits.{last_max, slope_max, slack_max, touches_max}
use Rattle.terms.specs.Meaning.{Keeps, Height}
use Rattle.caps.specs.declared.Touch.{Touch}
use Rattle.caps.specs.declared.Line.{Line}

-- each item stands in the relation R to every later one
abbrev pub InOrder : {X : Type 0} → (X → X → Type 0) → List X → Type 0
InOrder R [] = Unit {0}
InOrder R (x ∷ xs) = AllByRecursion (R x) xs × InOrder R xs

-- each touch lies below those after it
abbrev pub Rising : List Touch → Type 0
Rising ts = InOrder (λ t u. t.position < u.position) ts

-- touches of the line, in rising order of position
pub record OnLine (line : Line) (ts : List Touch) : Type 0 where
  pub within : AllByRecursion (λ t. t.position ≤ line.last) ts
  pub rising : Rising ts

-- the two touches keep the law of the line
abbrev pub Agree : Line → Touch → Touch → Type 0
Agree line t u = Keeps line.slope line.slack t.position u.position t.height u.height

-- touches of the line, any two of which keep the law
pub record LawfulTouches (line : Line) (ts : List Touch) : Type 0 where
  pub on_line : OnLine line ts
  pub lawful : AllByRecursion (λ t. AllByRecursion (Agree line t) ts) ts

-- whether x is touched
abbrev pub is_touched : List Touch → ℕ → Bool
is_touched [] x = false
is_touched (t ∷ ts) x = cond (t.position == x) true (is_touched ts x)

-- x is not touched
abbrev pub Untouched : List Touch → ℕ → Type 0
Untouched ts x = AllByRecursion (λ t. t.position ≢ x) ts

-- the touches with u put in at its place in rising order
abbrev pub insert : Touch → List Touch → List Touch
insert u [] = u ∷ []
insert u (t ∷ ts) = cond (nat_lt u.position t.position) (u ∷ (t ∷ ts)) (t ∷ insert u ts)

-- the three numbers of a line are within their limits
pub record WithinLimits (line : Line) : Type 0 where
  pub last_low : 1 ≤ line.last
  pub last_high : line.last ≤ last_max
  pub slope_low : 1 ≤ line.slope
  pub slope_high : line.slope ≤ slope_max
  pub slack_high : line.slack ≤ slack_max

-- a line and its touches within all limits, the touches in rising order of position
pub record Sound (line : Line) (ts : List Touch) : Type 0 where
  pub limits : WithinLimits line
  pub on_line : OnLine line ts
  pub heights : AllByRecursion (λ t. Height t.height) ts
  pub few : length ts ≤ touches_max
