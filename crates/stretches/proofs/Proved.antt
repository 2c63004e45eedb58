-- The laws of the spans hold.
use Rattle.std.proofs.Common.{◌≡◌, ℕ, ◌≤◌, List, ◌∷◌, get_or, ℤ, pos, ◌≤ℤ◌, refl, arith}
use borrow.Author.Differences.{ints}
use Rattle.std.specs.List.{AllByRecursion}
use Rattle.std.proofs.ByRecursion.{All-map, All-weaker}
use Rattle.terms.specs.Meaning.{distance}
use Rattle.caps.specs.declared.Touch.{Touch}
use Rattle.caps.specs.declared.Line.{Line}
use Rattle.caps.specs.Touches.{OnLine, LawfulTouches}
use Rattle.caps.specs.Stretches.{Stretch, Peak, top_place}
use Rattle.caps.specs.Caps.{cap, Possible}
use Rattle.caps.specs.Gaps.{IsGap, gaps}
use Rattle.caps.proofs.Gaps.{each_is_a_gap}
use Rattle.caps.proofs.Peaks.{top_peak}
use Rattle.caps.proofs.Possible.{possible_below}
use Rattle.stretches.specs.declared.spans.Span.{Span}
use Rattle.stretches.specs.Spans.{span_of, spans}
use Rattle.stretches.specs.Laws.{LawsOfSpans}

module _ (line : Line) (a : Touch) (ts : List Touch) where
  abbrev f : ℕ → ℤ
  f = cap line (a ∷ ts)

  -- What holds of the span of every gap holds of every span.
  each : (P : Span → Type 0) → ((g : Stretch) → IsGap line (a ∷ ts) g → P (span_of f g)) → OnLine line (a ∷ ts) → AllByRecursion P (spans line (a ∷ ts))
  each P h on = All-map P (span_of f) (gaps line (a ∷ ts)) (All-weaker (IsGap line (a ∷ ts)) (λ g. P (span_of f g)) h (gaps line (a ∷ ts)) (each_is_a_gap line (a ∷ ts) on))

  below : LawfulTouches line (a ∷ ts) → (sheet : List ℤ) → Possible line (a ∷ ts) sheet → (g : Stretch) → IsGap line (a ∷ ts) g → (x : ℕ) → g.from ≤ x → x ≤ g.to → get_or sheet x (pos 0) ≤ℤ f (top_place f g)
  below l sheet p g is x low high =
      let under = possible_below line a ts l sheet p x (omega (arith, is.within)) in
      let most = (top_peak f g is.some).largest x low high in
      omega (arith, ints)

pub laws_of_spans : LawsOfSpans
unfolding distance
laws_of_spans = record {
  each_is_a_gap = λ line a ts. each line a ts (λ s. IsGap line (a ∷ ts) (record { from = s.from; to = s.to })) (λ g is. is);
  each_at_its_peak = λ line a ts. each line a ts (λ s. Peak (cap line (a ∷ ts)) s.from s.to s.summit.place) (λ g is. top_peak (cap line (a ∷ ts)) g is.some);
  each_with_its_cap = λ line a ts. each line a ts (λ s. s.summit.cap ≡ cap line (a ∷ ts) s.summit.place) (λ g is. refl);
  no_sheet_above = λ line a ts l sheet p.
      each line a ts (λ s. (x : ℕ) → s.from ≤ x → x ≤ s.to → get_or sheet x (pos 0) ≤ℤ s.summit.cap) (below line a ts l sheet p) l.on_line;
  four_gaps = refl;
  a_strip = refl;
}
