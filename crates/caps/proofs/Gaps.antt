-- The gaps are the runs of untouched positions that no neighbour extends.
use Rattle.std.proofs.Common.{◌≡◌, ℕ, ◌+◌, ◌-◌, ◌<◌, ◌≤◌, ltb, leb, ◌≢◌, ◌⊎◌, List, [], ◌∷◌, sym, refl, ap, ◌∙◌, subst, inl, inr, ⊎_elim, arith}
use Rattle.std.specs.List.{ContainsAt as Has, AllByRecursion}
use Rattle.std.proofs.ByRecursion.{All-weaker, all-has, all_has_itself}
use Rattle.std.proofs.lemmas.Bool.{cond_both, ltb-true, ltb-false, leb-true, leb-false, cases_lt}
use Rattle.caps.specs.declared.Touch.{Touch}
use Rattle.caps.specs.declared.Line.{Line}
use Rattle.caps.specs.Touches.{Rising, OnLine, Untouched}
use Rattle.caps.specs.Stretches.{Stretch}
use Rattle.caps.specs.Gaps.{IsGap, gaps_from, gaps, Ascending}

-- An untouched position lies in a gap that has whatever every gap has.
pub cover : (P : Stretch → Type 0) (last x : ℕ) → x ≤ last → (lo : ℕ) (ts : List Touch) → Untouched ts x → lo ≤ x → AllByRecursion P (gaps_from last lo ts) →
    (g : Stretch) × P g × (g.from ≤ x) × (x ≤ g.to)
cover P last x m lo [] u l =
    cond_both (leb lo last) (record { from = lo; to = last } ∷ []) [] (λ gs. AllByRecursion P gs → (g : Stretch) × P g × (g.from ≤ x) × (x ≤ g.to))
    (λ e h. (record { from = lo; to = last }, h.0, l, m))
    (λ e h. absurd (omega (arith, leb-false lo last e)))
cover P last x m lo (t ∷ ts) u l =
    let n = u.0 in
    cond_both (ltb lo t.position) _ _ (λ gs. AllByRecursion P gs → (g : Stretch) × P g × (g.from ≤ x) × (x ≤ g.to))
    (λ e h. ⊎_elim (λ k. (record { from = lo; to = t.position - 1 }, h.0, l, omega arith)) (λ k. cover P last x m (t.position + 1) ts u.1 (omega arith) h.1) (cases_lt x t.position))
    (λ e h. cover P last x m (t.position + 1) ts u.1 (omega (arith, ltb-false lo t.position e)) h)

-- What a gap is among the touches ts that come after what lies below lo.
record Among (last lo : ℕ) (ts : List Touch) (g : Stretch) : Type 0 where
  low : lo ≤ g.from
  some : g.from ≤ g.to
  high : g.to ≤ last
  beside : AllByRecursion (λ t. (t.position < g.from) ⊎ (g.to < t.position)) ts
  before : (g.from ≡ lo) ⊎ ((x : ℕ) → x + 1 ≡ g.from → Untouched ts x → ⊥)
  after : (g.to ≡ last) ⊎ (Untouched ts (g.to + 1) → ⊥)

among : (last lo : ℕ) (ts : List Touch) → Rising ts → AllByRecursion (λ t. t.position ≤ last) ts → AllByRecursion (λ t. lo ≤ t.position) ts → AllByRecursion (Among last lo ts) (gaps_from last lo ts)
among last lo [] r w a =
    cond_both (leb lo last) _ _ (AllByRecursion (Among last lo []))
    (λ e. (record { low = omega arith; some = leb-true lo last e; high = omega arith; beside = tt; before = inl refl; after = inl refl }, tt)) (λ e. tt)
among last lo (t ∷ ts) r w a =
    let rest : AllByRecursion (Among last lo (t ∷ ts)) (gaps_from last (t.position + 1) ts) =
    All-weaker (Among last (t.position + 1) ts) (Among last lo (t ∷ ts))
    (λ g h. record {
      low = omega (arith, h.low, a.0);
      some = h.some;
      high = h.high;
      beside = (inl (omega (arith, h.low)), h.beside);
      before = inr (⊎_elim (λ e x q u. u.0 (omega arith)) (λ f x q u. f x q u.1) h.before);
      after = ⊎_elim (λ e. inl e) (λ f. inr (λ u. f u.1)) h.after;
    })
    (gaps_from last (t.position + 1) ts)
    (among last (t.position + 1) ts r.1 w.1 (All-weaker (λ u. t.position < u.position) (λ u. t.position + 1 ≤ u.position) (λ u k. omega arith) ts r.0)) in
    cond_both (ltb lo t.position) _ _ (AllByRecursion (Among last lo (t ∷ ts)))
    (λ e. let k = ltb-true lo t.position e in (
      record {
        low = omega arith;
        some = omega arith;
        high = omega (arith, w.0);
        beside = (inr (omega arith), All-weaker (λ u. t.position < u.position) (λ u. (u.position < lo) ⊎ (t.position - 1 < u.position)) (λ u m. inr (omega arith)) ts r.0);
        before = inl refl;
        after = inr (λ u. u.0 (omega arith));
      },
      rest,
    ))
    (λ e. rest)

apart : (g : Stretch) (x : ℕ) (ts : List Touch) → g.from ≤ x → x ≤ g.to → AllByRecursion (λ t. (t.position < g.from) ⊎ (g.to < t.position)) ts → Untouched ts x
apart g x ts l m h = All-weaker (λ t. (t.position < g.from) ⊎ (g.to < t.position)) (λ t. t.position ≢ x) (λ t b. omega arith) ts h

ascend : (last lo : ℕ) (ts : List Touch) → Rising ts → AllByRecursion (λ t. t.position ≤ last) ts → AllByRecursion (λ t. lo ≤ t.position) ts → Ascending (gaps_from last lo ts)
ascend last lo [] r w a = cond_both (leb lo last) _ _ Ascending (λ e. (tt, tt)) (λ e. tt)
ascend last lo (t ∷ ts) r w a =
    let next = All-weaker (λ u. t.position < u.position) (λ u. t.position + 1 ≤ u.position) (λ u k. omega arith) ts r.0 in
    let rest = ascend last (t.position + 1) ts r.1 w.1 next in
    cond_both (ltb lo t.position) _ _ Ascending
    (λ e. (All-weaker (Among last (t.position + 1) ts) (λ k. t.position - 1 < k.from) (λ k h. omega (arith, h.low)) (gaps_from last (t.position + 1) ts) (among last (t.position + 1) ts r.1 w.1 next), rest))
    (λ e. rest)

module _ (line : Line) (ts : List Touch) (on : OnLine line ts) where
  zeros : AllByRecursion (λ t. 0 ≤ t.position) ts
  zeros = All-weaker (λ t. t.position ≤ line.last) (λ t. 0 ≤ t.position) (λ t h. omega arith) ts on.within

  pub each_is_a_gap : AllByRecursion (IsGap line ts) (gaps line ts)
  each_is_a_gap =
      All-weaker (Among line.last 0 ts) (IsGap line ts)
      (λ g h. record {
        some = h.some;
        within = h.high;
        free = λ x l m. apart g x ts l m h.beside;
        before = λ x q u. ⊎_elim (λ e. absurd (omega arith)) (λ f. f x q u) h.before;
        after = λ l u. ⊎_elim (λ e. absurd (omega arith)) (λ f. f u) h.after;
      })
      (gaps line ts) (among line.last 0 ts on.rising on.within zeros)

  pub gaps_ascend : Ascending (gaps line ts)
  gaps_ascend = ascend line.last 0 ts on.rising on.within zeros

  pub untouched_lies_in_a_gap : (x : ℕ) → x ≤ line.last → Untouched ts x → (g : Stretch) × Has (gaps line ts) g × (g.from ≤ x) × (x ≤ g.to)
  untouched_lies_in_a_gap x l u = cover (Has (gaps line ts)) line.last x l 0 ts u (omega arith) (all_has_itself (gaps line ts))

  -- Two gaps with a position in common are one.
  starts : (g k : Stretch) → IsGap line ts g → IsGap line ts k → k.from ≤ g.from → g.from ≤ k.to → g.from ≤ k.from
  starts g k a b l m = ⊎_elim (λ n. absurd (a.before (g.from - 1) (omega arith) (b.free (g.from - 1) (omega arith) (omega arith)))) (λ n. n) (cases_lt k.from g.from)

  ends : (g k : Stretch) → IsGap line ts g → IsGap line ts k → k.from ≤ g.to → g.to ≤ k.to → k.to ≤ g.to
  ends g k a b l m = ⊎_elim (λ n. absurd (a.after (omega (arith, b.within)) (b.free (g.to + 1) (omega arith) (omega arith)))) (λ n. n) (cases_lt g.to k.to)

  one_gap : (g k : Stretch) → IsGap line ts g → IsGap line ts k → k.from ≤ g.from → g.from ≤ k.to → g ≡ k
  one_gap g k a b l m =
      let s = starts g k a b l m in
      let same : g.from ≡ k.from = omega arith in
      let e = ends g k a b in
      let f = ends k g b a in
      let last : g.to ≡ k.to = ⊎_elim (λ n. let r = e (omega (arith, a.some)) (omega arith) in omega arith) (λ n. let r = f (omega (arith, b.some)) n in omega arith) (cases_lt g.to k.to) in
      ap (λ x. between x g.to) same ∙ ap (between k.from) last
    where
      between : ℕ → ℕ → Stretch
      between x y = record { from = x; to = y }

  pub no_gap_is_missing : (g : Stretch) → IsGap line ts g → Has (gaps line ts) g
  no_gap_is_missing g h =
      let k = untouched_lies_in_a_gap g.from (omega (arith, h.some, h.within)) (h.free g.from (omega arith) h.some) in
      subst (Has (gaps line ts)) (sym (one_gap g k.0 h (all-has (IsGap line ts) (gaps line ts) k.0 each_is_a_gap k.1) k.2 k.3)) k.1
