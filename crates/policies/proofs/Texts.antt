-- Texts put together line by line.
use Rattle.std.proofs.Common.{◌≡◌, ℕ, ◌+◌, ◌<◌, ◌≤◌, List, ◌++◌, length, get_or, drop, sym, ap, ◌∙◌, append_assoc, append-nil}
use Rattle.std.proofs.lemmas.List.{drop_more, drop_all}
use Rattle.stretches.specs.declared.spans.Span.{Span}
use Rattle.policies.specs.Lines.{span_text, spans_text}

-- the lines of the gaps: one more, and all
module _ (last : ℕ) (ss : List Span) (i : ℕ) where
  pub one_more : (out more : List ℕ) (d : Span) → i < length ss → more ≡ out ++ span_text last (get_or ss i d) → more ++ spans_text last (drop (i + 1) ss) ≡ out ++ spans_text last (drop i ss)
  one_more out more d h e =
      ap (λ x. x ++ spans_text last (drop (i + 1) ss)) e ∙ append_assoc out (span_text last (get_or ss i d)) (spans_text last (drop (i + 1) ss))
      ∙ ap (λ xs. out ++ spans_text last xs) (sym (drop_more ss i d h))

  pub all_told : (out all : List ℕ) → length ss ≤ i → out ++ spans_text last (drop i ss) ≡ all → out ≡ all
  all_told out all h e = sym (append-nil out) ∙ ap (λ xs. out ++ spans_text last xs) (sym (drop_all i ss h)) ∙ e

-- three texts, one after another
pub three : (start one two end x y z a b c : List ℕ) → one ≡ start ++ x → x ≡ a → two ≡ one ++ y → y ≡ b → end ≡ two ++ z → z ≡ c → end ≡ start ++ (a ++ (b ++ c))
three start one two end x y z a b c p q r s t u = cc (append_assoc start a (b ++ c), append_assoc (start ++ a) b c)
