-- Worked examples with their figures.
use Rattle.std.specs.Prelude.{◌≡◌, ℕ, true, false, List, [], ◌∷◌, map, ℤ, pos, Some, Option, slice_index_or}
use Rattle.caps.specs.declared.Touch.{Touch}
use Rattle.caps.specs.declared.Line.{Line}
use Rattle.caps.specs.declared.Outlook.{Outlook}
use Rattle.caps.specs.Touches.{insert}
use Rattle.caps.specs.Stretches.{Stretch, top}
use Rattle.caps.specs.Caps.{cap, ceiling, spacing, most_touches}
use Rattle.caps.specs.Gaps.{gaps}
use Rattle.caps.specs.Outlooks.{outlook, is_settled, lowest_open, open_summit}

-- last 10, slope 5, slack 0, and the heights of positions 0 to 10
abbrev pub line_a : Line
line_a = record { last = 10; slope = 5; slack = 0 }

abbrev pub sheet_a : List ℤ
sheet_a = pos 0 ∷ pos 4 ∷ pos 8 ∷ pos 10 ∷ pos 9 ∷ pos 5 ∷ pos 6 ∷ pos 9 ∷ pos 7 ∷ pos 3 ∷ pos 0 ∷ []

-- the touches of the sheet at these positions, the first touched last in the list
abbrev pub touched_at : List ℕ → List Touch
touched_at [] = []
touched_at (p ∷ ps) = insert (record { position = p; height = slice_index_or sheet_a p (pos 0) }) (touched_at ps)

-- the floor at its position, the ceiling, and the place and cap of the summit
abbrev pub told : ℕ → ℕ → ℕ → ℕ → Option Outlook
told position floor ceiling place =
    Some (record { floor = record { position = position; height = pos floor }; ceiling = pos ceiling; summit = Some (record { cap = pos ceiling; place = place }) })

abbrev pub from_to : ℕ → ℕ → Stretch
from_to a b = record { from = a; to = b }

-- slope 1, slack 4, last 4, touches 0 of height 0 and 2 of height 6
abbrev pub line_b : Line
line_b = record { last = 4; slope = 1; slack = 4 }

abbrev pub touches_b : List Touch
touches_b = record { position = 0; height = pos 0 } ∷ record { position = 2; height = pos 6 } ∷ []

pub record Figures : Type 0 where
  -- touches 0, 10, 5, 3, 7, each where the cap is largest, have ceilings 50, 25, 15, 15, 10
  pub first : outlook line_a (touched_at (0 ∷ [])) ≡ told 0 0 50 10
  pub second : outlook line_a (touched_at (10 ∷ 0 ∷ [])) ≡ told 0 0 25 5
  pub third : outlook line_a (touched_at (5 ∷ 10 ∷ 0 ∷ [])) ≡ told 5 5 15 3
  pub fourth : outlook line_a (touched_at (3 ∷ 5 ∷ 10 ∷ 0 ∷ [])) ≡ told 3 10 15 7
  pub fifth : ceiling line_a (touched_at (7 ∷ 3 ∷ 5 ∷ 10 ∷ 0 ∷ [])) ≡ pos 10
  -- settled at tolerance 3 then, and not one touch earlier
  pub fifth_settles : is_settled line_a (touched_at (7 ∷ 3 ∷ 5 ∷ 10 ∷ 0 ∷ [])) 3 ≡ true
  pub fourth_does_not : is_settled line_a (touched_at (3 ∷ 5 ∷ 10 ∷ 0 ∷ [])) 3 ≡ false
  -- after 0, 10, 5, 3 the gaps 1 to 2 and 4 are not open at tolerance 3; the lowest open gap is 6 to 9, and its place is 7
  pub gaps_then : gaps line_a (touched_at (3 ∷ 5 ∷ 10 ∷ 0 ∷ [])) ≡ from_to 1 2 ∷ from_to 4 4 ∷ from_to 6 9 ∷ []
  pub largest_then : map (top (cap line_a (touched_at (3 ∷ 5 ∷ 10 ∷ 0 ∷ [])))) (gaps line_a (touched_at (3 ∷ 5 ∷ 10 ∷ 0 ∷ []))) ≡ pos 10 ∷ pos 10 ∷ pos 15 ∷ []
  pub open_then : lowest_open line_a (touched_at (3 ∷ 5 ∷ 10 ∷ 0 ∷ [])) 3 ≡ Some (from_to 6 9)
  pub place_then : open_summit line_a (touched_at (3 ∷ 5 ∷ 10 ∷ 0 ∷ [])) 3 ≡ Some (record { cap = pos 15; place = 7 })
  -- after one touch it is settled at tolerance 50 and not at 49
  pub settled_at_50 : is_settled line_a (touched_at (0 ∷ [])) 50 ≡ true
  pub open_at_49 : is_settled line_a (touched_at (0 ∷ [])) 49 ≡ false
  -- caps from all touches: those at 1, 3, 4 are 5, 7, 8 and the ceiling is 8; the touch at 2 alone would let 4 stand at 12
  pub caps_from_all : map (cap line_b touches_b) (1 ∷ 3 ∷ 4 ∷ []) ≡ pos 5 ∷ pos 7 ∷ pos 8 ∷ []
  pub ceiling_from_all : ceiling line_b touches_b ≡ pos 8
  -- tolerance 9 gives d = 2 and at most 6 touches, tolerance 10 gives d = 3 and at most 4
  pub spacing_at_9 : spacing line_a 9 ≡ 2
  pub most_at_9 : most_touches line_a 9 ≡ 6
  pub spacing_at_10 : spacing line_a 10 ≡ 3
  pub most_at_10 : most_touches line_a 10 ≡ 4
