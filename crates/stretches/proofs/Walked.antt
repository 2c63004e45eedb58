-- What a walk over the touches has told so far.
use Rattle.std.proofs.Common.{◌≡◌, ℕ, ◌+◌, ◌-◌, ◌<◌, ◌≤◌, List, [], ◌∷◌, ◌++◌, map, length, get_or, drop, ℤ, Some, None, Option, MatchOption, sym, refl, ap, ◌∙◌, subst, append_assoc, append-nil, arith}
use Rattle.std.proofs.lemmas.List.{drop_more, drop_all}
use Rattle.std.proofs.lemmas.Bool.Decides.{nat_tests}
use Rattle.std.proofs.lemmas.Bool.{cond-true, cond-false, lt-ltb, le-ltb, le-leb, lt-leb}
use Rattle.caps.specs.declared.Touch.{Touch}
use Rattle.caps.specs.declared.Line.{Line}
use Rattle.caps.specs.declared.Summit.{Summit}
use Rattle.caps.specs.Stretches.{Stretch, summit_of}
use Rattle.caps.specs.Caps.{cap}
use Rattle.caps.specs.Gaps.{gaps_from}
use Rattle.envelope.specs.declared.gaps.Gaps.{Gaps}
use Rattle.envelope.specs.Walks.{summits_from}
use Rattle.envelope.specs.Rest.{rest as coming_of}
use Rattle.stretches.specs.declared.spans.Span.{Span}
use Rattle.stretches.specs.Spans.{span_of, spans, spans_from, span_with, end_before, strip_end}

-- The summits still to come are those of the gaps from lo on, and the spans told are those of the gaps before.
pub record Told (line : Line) (ts : List Touch) (lo : ℕ) (rs : List Touch) (coming : List Summit) (told : List Span) : Type 0 where
  pub coming_are : coming ≡ summits_from line ts lo rs
  pub told_are : told ++ spans_from line ts lo rs ≡ spans_from line ts 0 ts

pub told_same : (line : Line) (ts : List Touch) (lo : ℕ) (rs : List Touch) (g h : Gaps) (told more : List Span) → g ≡ h → told ≡ more → Told line ts lo rs (coming_of h) more → Told line ts lo rs (coming_of g) told
told_same line ts lo rs g h told more e k t = subst (λ x. Told line ts lo rs (coming_of x) told) (sym e) (subst (Told line ts lo rs (coming_of h)) (sym k) t)

-- The first of the summits to come is told, and the others are left.
yielded : (o : Option Summit) (coming after : List Summit) (x : Summit) (others : List Summit) → MatchOption o ((coming ≡ []) × (after ≡ [])) (λ s. coming ≡ s ∷ after) →
    coming ≡ x ∷ others → (o ≡ Some x) × (after ≡ others)
yielded None coming after x others y e = let none = y.0 in let z : ◌≡◌ {A = ℕ} 0 1 = cc in absurd (omega arith)
yielded (Some s) coming after x others y e = (cc, cc)

-- What the end of a gap, or that there is none, says of where it begins.
pub ends_before : (lo p to : ℕ) → Some to ≡ end_before lo p → (lo < p) × (to ≡ p - 1)
ends_before lo p to e = grind (arith, nat_tests)

pub nothing_before : (lo p : ℕ) → None ≡ end_before lo p → p ≤ lo
nothing_before lo p e = grind (arith, nat_tests)

pub ends_strip : (lo last to : ℕ) → Some to ≡ strip_end lo last → (lo ≤ last) × (to ≡ last)
ends_strip lo last to e = grind (arith, nat_tests)

pub no_strip_left : (lo last : ℕ) → None ≡ strip_end lo last → last < lo
no_strip_left lo last e = grind (arith, nat_tests)

-- One more span is told.
joined : (told more : List Span) (x : Span) (rest all : List Span) → more ≡ x ∷ [] → told ++ (x ∷ rest) ≡ all → (told ++ more) ++ rest ≡ all
joined told more x rest all e h = append_assoc told more rest ∙ ap (λ m. told ++ (m ++ rest)) e ∙ h

module _ (line : Line) (ts : List Touch) (lo : ℕ) (coming : List Summit) (told : List Span) where
  abbrev f : ℕ → ℤ
  f = cap line ts

  -- At the touch of place i.
  module _ (i : ℕ) (d : Touch) (n : i < length ts) (so_far : Told line ts lo (drop i ts) coming told) where
    abbrev t : Touch
    t = get_or ts i d

    abbrev rest : List Touch
    rest = drop (i + 1) ts

    abbrev gap : Stretch
    gap = record { from = lo; to = t.position - 1 }

    split : drop i ts ≡ t ∷ rest
    split = drop_more ts i d n

    gap_first : lo < t.position → gaps_from line.last lo (drop i ts) ≡ gap ∷ gaps_from line.last (t.position + 1) rest
    gap_first h = ap (gaps_from line.last lo) split ∙ cond-true _ _ _ (lt-ltb lo t.position h)

    no_gap : t.position ≤ lo → gaps_from line.last lo (drop i ts) ≡ gaps_from line.last (t.position + 1) rest
    no_gap h = ap (gaps_from line.last lo) split ∙ cond-false _ _ _ (le-ltb lo t.position h)

    pub skipped : None ≡ end_before lo t.position → Told line ts (t.position + 1) rest coming told
    skipped none =
        let h : t.position ≤ lo = nothing_before lo t.position none in
        record {
          coming_are = so_far.coming_are ∙ ap (map (summit_of f)) (no_gap h);
          told_are = ap (λ gs. told ++ map (span_of f) gs) (sym (no_gap h)) ∙ so_far.told_are;
        }

    pub took : (to : ℕ) → Some to ≡ end_before lo t.position → (o : Option Summit) (after : List Summit) → MatchOption o ((coming ≡ []) × (after ≡ [])) (λ s. coming ≡ s ∷ after) → (more : List Span) →
        more ≡ told ++ span_with lo to o → Told line ts (t.position + 1) rest after more
    took to ends o after told-now more e =
        let h : lo < t.position = (ends_before lo t.position to ends).0 in
        let last : to ≡ t.position - 1 = (ends_before lo t.position to ends).1 in
        let are : coming ≡ summit_of f gap ∷ summits_from line ts (t.position + 1) rest = so_far.coming_are ∙ ap (map (summit_of f)) (gap_first h) in
        let y = yielded o coming after _ _ told-now are in
        record {
          coming_are = y.1;
          told_are = ap (λ m. m ++ spans_from line ts (t.position + 1) rest) (e ∙ ap (λ n. told ++ span_with lo n o) last)
              ∙ joined told (span_with lo (t.position - 1) o) (span_of f gap) _ _ (ap (span_with lo (t.position - 1)) y.0)
              (ap (λ gs. told ++ map (span_of f) gs) (sym (gap_first h)) ∙ so_far.told_are);
        }

  -- Past the last touch.
  module _ (i : ℕ) (all : length ts ≤ i) (so_far : Told line ts lo (drop i ts) coming told) where
    abbrev strip : Stretch
    strip = record { from = lo; to = line.last }

    strip_only : lo ≤ line.last → gaps_from line.last lo (drop i ts) ≡ strip ∷ []
    strip_only h = ap (gaps_from line.last lo) (drop_all i ts all) ∙ cond-true _ _ _ (le-leb lo line.last h)

    no_strip : line.last < lo → gaps_from line.last lo (drop i ts) ≡ []
    no_strip h = ap (gaps_from line.last lo) (drop_all i ts all) ∙ cond-false _ _ _ (lt-leb lo line.last h)

    pub ended : None ≡ strip_end lo line.last → told ≡ spans_from line ts 0 ts
    ended none =
        let h : line.last < lo = no_strip_left lo line.last none in
        sym (append-nil told) ∙ ap (λ gs. told ++ map (span_of f) gs) (sym (no_strip h)) ∙ so_far.told_are

    pub ended_by_strip : (to : ℕ) → Some to ≡ strip_end lo line.last → (o : Option Summit) (after : List Summit) → MatchOption o ((coming ≡ []) × (after ≡ [])) (λ s. coming ≡ s ∷ after) → (more : List Span) → more ≡ told ++ span_with lo to o →
        more ≡ spans_from line ts 0 ts
    ended_by_strip to ends o after told-now more e =
        let h : lo ≤ line.last = (ends_strip lo line.last to ends).0 in
        let last : to ≡ line.last = (ends_strip lo line.last to ends).1 in
        e ∙ ap (λ n. told ++ span_with lo n o) last ∙ ap (λ m. told ++ m) (ap (span_with lo line.last) (yielded o coming after _ _ told-now (so_far.coming_are ∙ ap (map (summit_of f)) (strip_only h))).0)
        ∙ ap (λ gs. told ++ map (span_of f) gs) (sym (strip_only h)) ∙ so_far.told_are

-- After the first touch they are those from position 0 on.
pub all_from_0 : (line : Line) (ts : List Touch) → (length ts ≡ 0 → ⊥) → spans_from line ts 0 ts ≡ spans line ts
all_from_0 line [] some = absurd (some refl)
all_from_0 line (a ∷ ts) some = refl
