-- What holds of caps, of gaps and of one more touch.
use Rattle.std.specs.Prelude.{◌≡◌, ℕ, ◌<◌, ◌≤◌, true, false, not, ◌↔◌, List, ◌∷◌, ◌++◌, length, ℤ, pos, ◌+ℤ◌, ◌≤ℤ◌, ◌<ℤ◌, is_some, Some, None, Option, slice_index_or}
use Rattle.std.specs.Int.{int_max}
use Rattle.std.specs.List.{ContainsAt as Has, AllByRecursion}
use Rattle.terms.specs.Meaning.{distance}
use Rattle.caps.specs.declared.Touch.{Touch}
use Rattle.caps.specs.declared.Line.{Line}
use Rattle.caps.specs.declared.Summit.{Summit}
use Rattle.caps.specs.declared.Outlook.{Outlook}
use Rattle.caps.specs.Touches.{OnLine, Agree, LawfulTouches, Untouched, insert}
use Rattle.caps.specs.Stretches.{Stretch, top_place, top, summit_of}
use Rattle.caps.specs.Caps.{least, cap, ceiling, floor, IsFloor, sheet_of_caps, Possible, NoneAbove, Apart, spacing, most_touches}
use Rattle.caps.specs.Gaps.{IsGap, gaps, Ascending, mapped, high_summit, highest_gap, HighestUntouched, LowestAbove}
use Rattle.caps.specs.Outlooks.{outlook, is_settled, lowest_open}
use Rattle.caps.specs.Crossings.{rise, fall, roof, crossing, beside}

-- The touches a and ts of a line, and what their caps say of the sheet.
pub record LawsOfCaps : Type 0 where
  -- the floor is the largest touched height, at the lowest position that has it
  pub floor_is_highest_and_lowest : (line : Line) (a : Touch) (ts : List Touch) → OnLine line (a ∷ ts) → IsFloor (a ∷ ts) (floor a ts)
  -- the caps make a possible sheet
  pub caps_make_a_possible_sheet : (line : Line) (a : Touch) (ts : List Touch) → LawfulTouches line (a ∷ ts) →
      Possible line (a ∷ ts) (sheet_of_caps line (a ∷ ts))
  -- no possible sheet stands above a cap anywhere
  pub no_sheet_above_a_cap : (line : Line) (a : Touch) (ts : List Touch) → LawfulTouches line (a ∷ ts) →
      (sheet : List ℤ) → Possible line (a ∷ ts) sheet → (x : ℕ) → x ≤ line.last → slice_index_or sheet x (pos 0) ≤ℤ cap line (a ∷ ts) x
  -- settled exactly when no possible sheet rises more than the tolerance above the floor
  pub settled_exactly : (line : Line) (a : Touch) (ts : List Touch) (tolerance : ℕ) → LawfulTouches line (a ∷ ts) →
      (is_settled line (a ∷ ts) tolerance ≡ true) ↔ NoneAbove line (a ∷ ts) ((floor a ts).height +ℤ pos tolerance)
  -- a position whose cap exceeds floor + tolerance is at least d from every touch
  pub high_cap_is_far : (line : Line) (a : Touch) (ts : List Touch) (tolerance : ℕ) → 1 ≤ line.slope → LawfulTouches line (a ∷ ts) →
      (x : ℕ) → ((floor a ts).height +ℤ pos tolerance) <ℤ cap line (a ∷ ts) x → AllByRecursion (λ t. spacing line tolerance ≤ distance t.position x) (a ∷ ts)
  -- d is 1 where the slack exceeds the tolerance
  pub spacing_of_one : (line : Line) (tolerance : ℕ) → 1 ≤ line.slope → tolerance ≤ line.slack → spacing line tolerance ≡ 1
  -- positions of 0 to last that lie pairwise d apart number at most last / d + 1
  pub few_lie_apart : (line : Line) (tolerance : ℕ) (ps : List ℕ) → AllByRecursion (λ p. p ≤ line.last) ps → Apart (spacing line tolerance) ps →
      length ps ≤ most_touches line tolerance

-- the larger of z and the summit's cap
abbrev pub over : ℤ → Option Summit → ℤ
over z None = z
over z (Some s) = int_max z s.cap

-- The gaps that touches leave, their largest caps, and what follows for floor and ceiling.
pub record LawsOfGaps : Type 0 where
  -- each of the gaps is a run of untouched positions that no neighbouring untouched position extends
  pub each_is_a_gap : (line : Line) (ts : List Touch) → OnLine line ts → AllByRecursion (IsGap line ts) (gaps line ts)
  -- each such run is among the gaps
  pub no_gap_is_missing : (line : Line) (ts : List Touch) → OnLine line ts → (g : Stretch) → IsGap line ts g → Has (gaps line ts) g
  -- the gaps stand in rising order
  pub gaps_ascend : (line : Line) (ts : List Touch) → OnLine line ts → Ascending (gaps line ts)
  -- every untouched position lies in a gap
  pub untouched_lies_in_a_gap : (line : Line) (ts : List Touch) → OnLine line ts → (x : ℕ) → x ≤ line.last → Untouched ts x →
      (g : Stretch) × Has (gaps line ts) g × (g.from ≤ x) × (x ≤ g.to)
  -- with touches on both sides the largest cap lies beside the crossing, at its higher whole neighbour, kept within the gap
  pub largest_beside_the_crossing : (line : Line) (g : Stretch) (a : Touch) (ls : List Touch) (b : Touch) (rs : List Touch) → 1 ≤ line.slope → g.from ≤ g.to →
      AllByRecursion (λ t. t.position < g.from) (a ∷ ls) → AllByRecursion (λ t. g.to < t.position) (b ∷ rs) →
      top_place (cap line ((a ∷ ls) ++ (b ∷ rs))) g
      ≡ beside (roof line.slope (least (rise line.slope) a ls) (least (fall line.slope) b rs)) g.from g.to
      (crossing line.slope (least (rise line.slope) a ls) (least (fall line.slope) b rs))
  -- with touches on one side only it lies at the farthest position: left of all touches, and right of the last
  pub largest_before_all_touches : (line : Line) (g : Stretch) (b : Touch) (rs : List Touch) → 1 ≤ line.slope → g.from ≤ g.to →
      AllByRecursion (λ t. g.to < t.position) (b ∷ rs) → top_place (cap line (b ∷ rs)) g ≡ g.from
  pub largest_after_all_touches : (line : Line) (g : Stretch) (a : Touch) (ls : List Touch) → 1 ≤ line.slope → g.from ≤ g.to →
      AllByRecursion (λ t. t.position < g.from) (a ∷ ls) → top_place (cap line (a ∷ ls)) g ≡ g.to
  -- the first gap of highest largest cap holds the lowest untouched position of largest cap
  pub high_lies_in_the_highest_gap : (line : Line) (a : Touch) (ts : List Touch) → OnLine line (a ∷ ts) →
      high_summit line (a ∷ ts) ≡ mapped (summit_of (cap line (a ∷ ts))) (highest_gap line (a ∷ ts))
  pub high_is_the_lowest_of_the_largest : (line : Line) (a : Touch) (ts : List Touch) (s : Summit) → high_summit line (a ∷ ts) ≡ Some s → HighestUntouched line (a ∷ ts) s.place
  -- the ceiling is the larger of the floor and that cap
  pub ceiling_is_floor_or_highest : (line : Line) (a : Touch) (ts : List Touch) → OnLine line (a ∷ ts) →
      ceiling line (a ∷ ts) ≡ over (floor a ts).height (high_summit line (a ∷ ts))
  -- if not settled there is such a gap, and its largest cap is the ceiling
  pub unsettled_has_a_highest_gap : (line : Line) (a : Touch) (ts : List Touch) (tolerance : ℕ) → OnLine line (a ∷ ts) → is_settled line (a ∷ ts) tolerance ≡ false →
      (g : Stretch) × (highest_gap line (a ∷ ts) ≡ Some g) × (top (cap line (a ∷ ts)) g ≡ ceiling line (a ∷ ts))
  -- the lowest open gap exists exactly when not settled
  pub open_exactly_when_unsettled : (line : Line) (a : Touch) (ts : List Touch) (tolerance : ℕ) → OnLine line (a ∷ ts) →
      is_some (lowest_open line (a ∷ ts) tolerance) ≡ not (is_settled line (a ∷ ts) tolerance)
  -- it is a gap, it is open, and no untouched position below it has a cap above floor + tolerance
  pub lowest_open_is_lowest : (line : Line) (a : Touch) (ts : List Touch) (tolerance : ℕ) (g : Stretch) → OnLine line (a ∷ ts) →
      lowest_open line (a ∷ ts) tolerance ≡ Some g → LowestAbove line (a ∷ ts) ((floor a ts).height +ℤ pos tolerance) g

-- The touches us are no worse than the touches ts, which tell o: no cap and no ceiling is higher, no floor lower.
pub record NoWorse (line : Line) (ts us : List Touch) (o : Outlook) : Type 0 where
  pub told : Outlook
  pub is_told : outlook line us ≡ Some told
  pub caps : (x : ℕ) → cap line us x ≤ℤ cap line ts x
  pub ceiling : told.ceiling ≤ℤ o.ceiling
  pub floor : o.floor.height ≤ℤ told.floor.height

-- u may be touched beside ts: it lies on the line, it is untouched, and its height keeps the law with theirs.
pub record MayTouch (line : Line) (u : Touch) (ts : List Touch) : Type 0 where
  pub within : u.position ≤ line.last
  pub free : Untouched ts u.position
  pub lawful : AllByRecursion (λ t. Agree line t u) ts

-- One more touch u beside the touches ts.
pub record LawsOfOneMore : Type 0 where
  -- lawful touches stay lawful
  pub stays_lawful : (line : Line) (u : Touch) (ts : List Touch) → LawfulTouches line ts → MayTouch line u ts → LawfulTouches line (insert u ts)
  -- it and every earlier touch are there
  pub every_touch_stays : (u : Touch) (ts : List Touch) → AllByRecursion (Has (insert u ts)) (u ∷ ts)
  -- it raises no cap and no ceiling and lowers no floor
  pub never_worse : (line : Line) (u : Touch) (ts : List Touch) (o : Outlook) → LawfulTouches line ts → MayTouch line u ts → outlook line ts ≡ Some o →
      NoWorse line ts (insert u ts) o
