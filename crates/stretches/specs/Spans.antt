-- How high each gap can stand.
use Rattle.std.specs.Prelude.{ℕ, ◌-◌, cond, List, [], ◌∷◌, map, ℤ, Some, None, Option, nat_le, nat_lt}
use Rattle.caps.specs.declared.Touch.{Touch}
use Rattle.caps.specs.declared.Line.{Line}
use Rattle.caps.specs.declared.Summit.{Summit}
use Rattle.caps.specs.Stretches.{Stretch, summit_of}
use Rattle.caps.specs.Caps.{cap}
use Rattle.caps.specs.Gaps.{gaps, gaps_from}
use Rattle.stretches.specs.declared.spans.Span.{Span}

-- a stretch with the largest value of f over it, at its lowest place
abbrev pub span_of : (ℕ → ℤ) → Stretch → Span
span_of f s = record { from = s.from; to = s.to; summit = summit_of f s }

-- the gaps in rising order, each with its largest cap at its lowest place; before the first touch there is no cap, and so none
abbrev pub spans : Line → List Touch → List Span
spans line [] = []
spans line (a ∷ ts) = map (span_of (cap line (a ∷ ts))) (gaps line (a ∷ ts))

-- the same of the gaps from lo on, beside the touches rs of all touches ts
abbrev pub spans_from : Line → List Touch → ℕ → List Touch → List Span
spans_from line ts lo rs = map (span_of (cap line ts)) (gaps_from line.last lo rs)

-- the last position of the gap from lo on that a touch at p ends, and of the strip from lo on past the last touch; none where they have no position
abbrev pub end_before : ℕ → ℕ → Option ℕ
end_before lo p = cond (nat_lt lo p) (Some (p - 1)) None

abbrev pub strip_end : ℕ → ℕ → Option ℕ
strip_end lo last = cond (nat_le lo last) (Some last) None

-- a gap whose summit is told
abbrev pub span_with : ℕ → ℕ → Option Summit → List Span
span_with from to None = []
span_with from to (Some s) = record { from = from; to = to; summit = s } ∷ []
