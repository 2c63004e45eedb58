-- The place of a new touch, and the test of touches.
use Rattle.std.proofs.Common.{◌≡◌, ℕ, suc, ◌+◌, ◌-◌, ◌<◌, ◌≤◌, ltb, List, [], ◌∷◌, ◌++◌, length, take, drop, pos, sym, refl, ap, ◌∙◌, arith}
use Rattle.std.specs.List.{insert as inserted}
use Rattle.std.proofs.ByRecursion.{All-weaker}
use Rattle.std.proofs.lemmas.Bool.{cond_both, cond-true, cond-false}
use Rattle.std.proofs.lemmas.Bool.Decides.{nat_tests}
use Rattle.caps.specs.declared.Touch.{Touch}
use Rattle.caps.specs.declared.Line.{Line}
use Rattle.caps.specs.Touches.{insert}
use Rattle.caps.specs.Places.{places_before, Follows, AllFollow}

abbrev pub no_touch : Touch
no_touch = record { position = 0; height = pos 0 }

pub before_le : (p : ℕ) (ts : List Touch) → places_before p ts ≤ length ts
before_le p [] = omega arith
before_le p (t ∷ ts) = let h = before_le p ts in grind (arith, nat_tests)

pub inserted_is : (u : Touch) (ts : List Touch) → inserted ts (places_before u.position ts) u ≡ insert u ts
inserted_is u [] = refl
inserted_is u (t ∷ ts) =
    cond_both (ltb u.position t.position) 0 (suc (places_before u.position ts)) (λ k. inserted (t ∷ ts) k u ≡ insert u (t ∷ ts))
    (λ e. sym (cond-true _ _ _ e))
    (λ e. ap (λ (us : List Touch). t ∷ us) (inserted_is u ts) ∙ sym (cond-false _ _ _ e))

-- A table whose first n touches u was put among.
pub table_is : (T : List Touch) (n : ℕ) (u : Touch) (at : ℕ) (after : List Touch) → at ≡ places_before u.position (take (n - 0) T) →
    after ≡ inserted (take n T) at u ++ drop (n + 1) T → after ≡ insert u (take n T) ++ drop (n + 1) T
table_is T n u at after e is =
    let same : n - 0 ≡ n = omega arith in
    let here : at ≡ places_before u.position (take n T) = e ∙ ap (λ k. places_before u.position (take k T)) same in
    is ∙ ap (λ k. inserted (take n T) k u ++ drop (n + 1) T) here ∙ ap (λ (us : List Touch). us ++ drop (n + 1) T) (inserted_is u (take n T))

-- A touch after p ends those at p or before.
pub before_stop : (p : ℕ) (t : Touch) (ts : List Touch) → p < t.position → places_before p (t ∷ ts) ≡ 0
before_stop p t ts h = grind (arith, nat_tests)

pub before_here : (p : ℕ) (t : Touch) (ts : List Touch) → t.position ≤ p → places_before p (t ∷ ts) ≡ places_before p ts + 1
before_here p t ts h = grind (arith, nat_tests)

-- Touches follow when the first does and the others follow after it.
module _ (line : Line) (from : ℕ) (t : Touch) (ts : List Touch) where
  pub rest_follow : AllFollow line from (t ∷ ts) → AllFollow line (t.position + 1) ts
  rest_follow h = record {
    after = All-weaker (λ u. t.position < u.position) (λ u. t.position + 1 ≤ u.position) (λ u k. omega arith) ts h.on_line.rising.0;
    on_line = record { within = h.on_line.within.1; rising = h.on_line.rising.1 };
    heights = h.heights.1;
  }

  pub more_follow : Follows line from t → AllFollow line (t.position + 1) ts → AllFollow line from (t ∷ ts)
  more_follow f h =
      let least = f.after in
      record {
        after = (f.after, All-weaker (λ u. t.position + 1 ≤ u.position) (λ u. from ≤ u.position) (λ u k. omega arith) ts h.after);
        on_line = record {
          within = (f.within, h.on_line.within);
          rising = (All-weaker (λ u. t.position + 1 ≤ u.position) (λ u. t.position < u.position) (λ u k. omega arith) ts h.after, h.on_line.rising);
        };
        heights = (f.height, h.heights);
      }
