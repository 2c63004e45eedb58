-- What the spans say of the sheet.
use Rattle.std.specs.Prelude.{◌≡◌, ℕ, ◌≤◌, List, [], ◌∷◌, ℤ, pos, ◌≤ℤ◌, slice_index_or}
use Rattle.std.specs.List.{AllByRecursion}
use Rattle.caps.specs.declared.Touch.{Touch}
use Rattle.caps.specs.declared.Line.{Line}
use Rattle.caps.specs.Touches.{OnLine, LawfulTouches}
use Rattle.caps.specs.Stretches.{Peak}
use Rattle.caps.specs.Caps.{cap, Possible}
use Rattle.caps.specs.Gaps.{IsGap}
use Rattle.caps.specs.Figures.{line_a, touched_at}
use Rattle.stretches.specs.declared.spans.Span.{Span}
use Rattle.stretches.specs.Spans.{spans}

-- a span by its ends and its summit
abbrev span : ℕ → ℕ → ℕ → ℕ → Span
span from to highest place = record { from = from; to = to; summit = record { cap = pos highest; place = place } }

pub record LawsOfSpans : Type 0 where
  -- each is a run of untouched positions that no neighbouring untouched position extends
  pub each_is_a_gap : (line : Line) (a : Touch) (ts : List Touch) → OnLine line (a ∷ ts) → AllByRecursion (λ s. IsGap line (a ∷ ts) (record { from = s.from; to = s.to })) (spans line (a ∷ ts))
  -- its summit stands at the lowest place of its largest cap, and has that cap
  pub each_at_its_peak : (line : Line) (a : Touch) (ts : List Touch) → OnLine line (a ∷ ts) → AllByRecursion (λ s. Peak (cap line (a ∷ ts)) s.from s.to s.summit.place) (spans line (a ∷ ts))
  pub each_with_its_cap : (line : Line) (a : Touch) (ts : List Touch) → OnLine line (a ∷ ts) → AllByRecursion (λ s. s.summit.cap ≡ cap line (a ∷ ts) s.summit.place) (spans line (a ∷ ts))
  -- no possible sheet stands above that cap anywhere in the gap
  pub no_sheet_above : (line : Line) (a : Touch) (ts : List Touch) → LawfulTouches line (a ∷ ts) → (sheet : List ℤ) → Possible line (a ∷ ts) sheet →
      AllByRecursion (λ s. (x : ℕ) → s.from ≤ x → x ≤ s.to → slice_index_or sheet x (pos 0) ≤ℤ s.summit.cap) (spans line (a ∷ ts))
  -- last 10, slope 5, slack 0, the touches 0, 3, 5, 7, 10 of heights 0, 10, 5, 9, 0: four gaps that can stand at 10
  pub four_gaps : spans line_a (touched_at (7 ∷ 3 ∷ 5 ∷ 10 ∷ 0 ∷ [])) ≡ span 1 2 10 2 ∷ span 4 4 10 4 ∷ span 6 6 10 6 ∷ span 8 9 10 8 ∷ []
  -- after the touches 0 and 5 the strip past the last touch, from 6 on, can stand at 30, first at 10
  pub a_strip : spans line_a (touched_at (5 ∷ 0 ∷ [])) ≡ span 1 4 15 3 ∷ span 6 10 30 10 ∷ []
