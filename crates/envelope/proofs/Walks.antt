-- What a walk over the gaps tells.
use Rattle.std.proofs.Common.{◌≡◌, ℕ, ◌+◌, ◌-◌, ◌*◌, ◌<◌, ◌≤◌, List, [], ◌∷◌, ◌++◌, map, length, get_or, take, drop, ℤ, pos, ◌+ℤ◌, ◌-ℤ◌, nat_abs, ◌≤ℤ◌, Some, None, Option, MatchOption, sym, refl, ap, ◌∙◌, subst, ⊎_elim, arith, length-drop, take-append-drop, length-take-le}
use borrow.Author.Differences.{ints}
use Rattle.std.specs.Int.{int_min}
use Rattle.std.specs.List.{AllByRecursion}
use Rattle.std.proofs.lemmas.List.{drop_more, drop_all, take_more, take_all}
use Rattle.std.proofs.ByRecursion.{All-weaker, All-get_or, All-more, All-take, All-drop}
use Rattle.std.proofs.lemmas.Bool.{cases_lt, cond-true, cond-false, lt-ltb, le-ltb, le-leb, lt-leb}
use Rattle.std.proofs.lemmas.Nat.{mul-le}
use Rattle.terms.specs.Limits.{last_max, slope_max}
use Rattle.terms.specs.Meaning.{Height}
use Rattle.caps.specs.declared.Touch.{Touch}
use Rattle.caps.specs.declared.Line.{Line}
use Rattle.caps.specs.declared.Summit.{Summit}
use Rattle.caps.specs.Touches.{Rising, Sound}
use Rattle.caps.specs.Stretches.{summit_of, Peak}
use Rattle.caps.specs.Caps.{cap}
use Rattle.caps.specs.Crossings.{rise, fall, roof}
use Rattle.caps.proofs.Lists.{all_zip, order-drop}
use Rattle.caps.proofs.Peaks.{peak_moved, summit_is}
use Rattle.caps.proofs.Crossings.{rising_peak, falling_peak}
use Rattle.envelope.specs.Walks.{line_max, lowest, summits_from, strip_of, Walking}
use Rattle.envelope.proofs.Lowest.{lowest_push, lowest-small}
use Rattle.envelope.proofs.Roofs.{both_sides, left_side, right_side}

-- The last call of a walk, which tells the last of the list or that nothing is left.
pub ended : {A : Type 0} (o : Option A) (before xs after : List A) → before ≡ xs → MatchOption o (xs ≡ []) (λ x. xs ≡ x ∷ []) → after ≡ [] → MatchOption o ((before ≡ []) × (after ≡ [])) (λ x. before ≡ x ∷ after)
ended None before xs after e h none = (e ∙ h, none)
ended (Some x) before xs after e h none = e ∙ h ∙ ap (λ (ys : List _). x ∷ ys) (sym none)

-- The two lines of a touch fit well within 32 bits.
module _ (line : Line) (ts : List Touch) (h : Sound line ts) where
  abbrev pub Small : (Touch → ℤ) → List Touch → Type 0
  Small f us = AllByRecursion (λ t. nat_abs (f t) ≤ line_max) us

  pub lines_small : (t : Touch) → t.position ≤ line.last → Height t.height → (nat_abs (rise line.slope t) ≤ line_max) × (nat_abs (fall line.slope t) ≤ line_max)
  lines_small t l k =
      let m = mul-le line.slope t.position slope_max last_max h.limits.slope_high (omega (arith, h.limits.last_high)) in
      let low = k.low in
      let high = k.high in
      (omega (arith, ints), omega (arith, ints))

  pub rises_small : Small (rise line.slope) ts
  rises_small =
      all_zip (λ t. t.position ≤ line.last) (λ t. Height t.height) (λ t. nat_abs (rise line.slope t) ≤ line_max)
      (λ t l k. (lines_small t l k).0) ts h.on_line.within h.heights

  pub falls_small : Small (fall line.slope) ts
  falls_small =
      all_zip (λ t. t.position ≤ line.last) (λ t. Height t.height) (λ t. nat_abs (fall line.slope t) ≤ line_max)
      (λ t l k. (lines_small t l k).1) ts h.on_line.within h.heights

  low : (f : Touch → ℤ) (us : List Touch) → Small f us → AllByRecursion (λ t. f t ≤ℤ pos 2147483647) us
  low f us h = All-weaker (λ t. nat_abs (f t) ≤ line_max) (λ t. f t ≤ℤ pos 2147483647) (λ t k. omega (arith, ints)) us h

module _ {line : Line} {ts : List Touch} {falls : List ℤ} {at from : ℕ} {left : ℤ} (w : Walking line ts falls at from left) where
  abbrev f : ℕ → ℤ
  f = cap line ts

  abbrev L : List Touch
  L = take at ts

  abbrev R : List Touch
  R = drop at ts

  join : L ++ R ≡ ts
  join = take-append-drop at ts

  small_left : AllByRecursion (λ t. nat_abs (rise line.slope t) ≤ line_max) L
  small_left = All-take (λ t. nat_abs (rise line.slope t) ≤ line_max) at ts (rises_small line ts w.sound)

  small_right : AllByRecursion (λ t. nat_abs (fall line.slope t) ≤ line_max) R
  small_right = All-drop (λ t. nat_abs (fall line.slope t) ≤ line_max) at ts (falls_small line ts w.sound)

  low_left : AllByRecursion (λ t. rise line.slope t ≤ℤ pos 2147483647) L
  low_left = low line ts w.sound (rise line.slope) L small_left

  low_right : AllByRecursion (λ t. fall line.slope t ≤ℤ pos 2147483647) R
  low_right = low line ts w.sound (fall line.slope) R small_right

  pub left_small : 0 < at → nat_abs left ≤ line_max
  left_small some = let k = lowest-small (rise line.slope) line_max L (omega (arith, length-take-le at ts w.within)) (omega arith) small_left in let e = w.left_is in omega (arith, ints)

  pub left_fits : nat_abs left ≤ 2147483647
  left_fits = ⊎_elim (λ some. omega (arith, left_small some)) (λ none. let e : left ≡ pos 2147483647 = w.left_is ∙ ap (λ n. lowest (rise line.slope) (take n ts)) (zero_is none) in omega (arith, ints)) (cases_lt 0 at)
    where
      zero_is : at ≤ 0 → at ≡ 0
      zero_is h = omega arith

  pub right_small : at < length ts → nat_abs (get_or falls at (pos 0)) ≤ line_max
  right_small n = let k = lowest-small (fall line.slope) line_max R (omega (arith, length-drop at ts)) (omega arith) small_right in let e = w.table.are at n in omega (arith, ints)

  -- Past the last touch.
  module _ (all : length ts ≤ at) where
    pub summits_tail : from ≤ line.last → summits_from line ts from R ≡ summit_of f (record { from = from; to = line.last }) ∷ []
    summits_tail h = ap (summits_from line ts from) (drop_all at ts all) ∙ ap (map (summit_of f)) (cond-true _ _ _ (le-leb from line.last h))

    pub summits_none : line.last < from → summits_from line ts from R ≡ []
    summits_none h = ap (summits_from line ts from) (drop_all at ts all) ∙ ap (map (summit_of f)) (cond-false _ _ _ (lt-leb from line.last h))

    pub all_behind : 0 < at
    all_behind = omega (arith, w.some)

    pub beyond_is : (s : Summit) (l : ℤ) → l ≡ left → from ≤ line.last → s ≡ record { cap = (l +ℤ pos (line.slope * line.last)) +ℤ pos line.slack; place = line.last } → s ≡ summit_of f (record { from = from; to = line.last })
    beyond_is s l same h e =
        let whole : L ≡ ts = take_all at ts all in
        let caps : (x : ℕ) → from ≤ x → f x ≡ (left +ℤ pos (line.slope * x)) +ℤ pos line.slack = λ x m.
        ap (λ us. cap line us x) (sym whole)
        ∙ left_side line x L (omega (arith, length-take-le at ts w.within, all_behind)) low_left (All-weaker (λ t. t.position < from) (λ t. t.position < x) (λ t k. omega arith) L w.before)
        ∙ ap (λ z. (z +ℤ pos (line.slope * x)) +ℤ pos line.slack) (sym w.left_is) in
        e ∙ ap (λ z. at_end ((z +ℤ pos (line.slope * line.last)) +ℤ pos line.slack)) same
        ∙ summit_is f (record { from = from; to = line.last }) (record { cap = (left +ℤ pos (line.slope * line.last)) +ℤ pos line.slack; place = line.last })
        (peak_moved f (λ x. left +ℤ pos (line.slope * x)) (pos line.slack) from line.last line.last (λ x l m. caps x l)
        (rising_peak line.slope left from line.last w.sound.limits.slope_low h))
        (sym (caps line.last h))
      where
        at_end : ℤ → Summit
        at_end z = record { cap = z; place = line.last }

    -- The strip is the first of the summits still to come, and the last.
    pub strip_is : (o : Option Summit) (l : ℤ) → l ≡ left → o ≡ strip_of line l from → MatchOption o (summits_from line ts from R ≡ []) (λ s. summits_from line ts from R ≡ s ∷ [])
    strip_is o l same e =
        ⊎_elim
        (λ h. subst Told (sym (e ∙ cond-false _ _ _ (lt-leb from line.last h))) (summits_none h))
        (λ h. subst Told (sym (e ∙ cond-true _ _ _ (le-leb from line.last h)))
        (summits_tail h ∙ ap (λ s. s ∷ []) (sym (beyond_is (record { cap = (l +ℤ pos (line.slope * line.last)) +ℤ pos line.slack; place = line.last }) l same h refl))))
        (cases_lt line.last from)
      where
        Told : Option Summit → Type 0
        Told o = MatchOption o (summits_from line ts from R ≡ []) (λ s. summits_from line ts from R ≡ s ∷ [])

    pub walking_end : Walking line ts falls at (line.last + 1) left
    walking_end = record {
      sound = w.sound;
      some = w.some;
      table = w.table;
      within = w.within;
      left_is = w.left_is;
      before = All-weaker (λ t. t.position < from) (λ t. t.position < line.last + 1) (λ t k. omega (arith, w.near)) L w.before;
      after = subst (AllByRecursion (λ t. line.last + 1 ≤ t.position)) (sym (drop_all at ts all)) tt;
      near = omega arith;
    }

  -- At a touch.
  module _ (n : at < length ts) (d : Touch) where
    abbrev t : Touch
    t = get_or ts at d

    split : R ≡ t ∷ drop (at + 1) ts
    split = drop_more ts at d n

    pub t_within : t.position ≤ line.last
    t_within = All-get_or (λ u. u.position ≤ line.last) ts at d n w.sound.on_line.within

    t_after : AllByRecursion (λ u. from ≤ u.position) (t ∷ drop (at + 1) ts)
    t_after = subst (AllByRecursion (λ u. from ≤ u.position)) split w.after

    t_rising : Rising (t ∷ drop (at + 1) ts)
    t_rising = subst Rising split (order-drop (λ t u. t.position < u.position) at ts w.sound.on_line.rising)

    pub t_low : nat_abs (rise line.slope t) ≤ line_max
    t_low = All-get_or (λ u. nat_abs (rise line.slope u) ≤ line_max) ts at d n (rises_small line ts w.sound)

    pub walking_on : (l : ℤ) → l ≡ int_min left (rise line.slope t) → Walking line ts falls (at + 1) (t.position + 1) l
    walking_on l is = record {
      sound = w.sound;
      some = w.some;
      table = w.table;
      within = omega arith;
      left_is = is ∙ sym (ap (lowest (rise line.slope)) (take_more ts at d n) ∙ lowest_push (rise line.slope) L t (omega (arith, ints, t_low)) ∙ ap (λ z. int_min z (rise line.slope t)) (sym w.left_is));
      before = All-more (λ u. u.position < t.position + 1) ts at d n (All-weaker (λ u. u.position < from) (λ u. u.position < t.position + 1) (λ u k. omega (arith, t_after.0)) L w.before) (omega arith);
      after = All-weaker (λ u. t.position < u.position) (λ u. t.position + 1 ≤ u.position) (λ u k. omega arith) (drop (at + 1) ts) t_rising.0;
      near = omega (arith, t_within);
    }

    pub summits_take : from < t.position → summits_from line ts from R ≡ summit_of f (record { from = from; to = t.position - 1 }) ∷ summits_from line ts (t.position + 1) (drop (at + 1) ts)
    summits_take h = ap (summits_from line ts from) split ∙ ap (map (summit_of f)) (cond-true _ _ _ (lt-ltb from t.position h))

    pub summits_told : (s : Summit) → from < t.position → s ≡ summit_of f (record { from = from; to = t.position - 1 }) → summits_from line ts from R ≡ s ∷ summits_from line ts (t.position + 1) (drop (at + 1) ts)
    summits_told s h is = summits_take h ∙ ap (λ u. u ∷ summits_from line ts (t.position + 1) (drop (at + 1) ts)) (sym is)

    pub summits_skip : t.position ≤ from → summits_from line ts from R ≡ summits_from line ts (t.position + 1) (drop (at + 1) ts)
    summits_skip h = ap (summits_from line ts from) split ∙ ap (map (summit_of f)) (cond-false _ _ _ (le-ltb from t.position h))

    module _ (gap : from < t.position) where
      ahead_all : (x : ℕ) → x ≤ t.position - 1 → AllByRecursion (λ u. x < u.position) R
      ahead_all x l = subst (AllByRecursion (λ u. x < u.position)) (sym split) (omega arith, All-weaker (λ u. t.position < u.position) (λ u. x < u.position) (λ u k. omega arith) (drop (at + 1) ts) t_rising.0)

      behind_all : (x : ℕ) → from ≤ x → AllByRecursion (λ u. u.position < x) L
      behind_all x l = All-weaker (λ u. u.position < from) (λ u. u.position < x) (λ u k. omega arith) L w.before

      some_right : 0 < length R
      some_right = omega (arith, length-drop at ts)

      pub ahead_is : (s : Summit) (right : ℤ) → at ≡ 0 → right ≡ get_or falls at (pos 0) → s ≡ record { cap = (right -ℤ pos (line.slope * from)) +ℤ pos line.slack; place = from } → s ≡ summit_of f (record { from = from; to = t.position - 1 })
      ahead_is s right z r e =
          let whole : R ≡ ts = ap (λ n. drop n ts) z in
          let caps : (x : ℕ) → x ≤ t.position - 1 → f x ≡ (right -ℤ pos (line.slope * x)) +ℤ pos line.slack = λ x l.
          ap (λ us. cap line us x) (sym whole) ∙ right_side line x R some_right low_right (ahead_all x l)
          ∙ ap (λ y. (y -ℤ pos (line.slope * x)) +ℤ pos line.slack) (sym (r ∙ w.table.are at n)) in
          e ∙ summit_is f (record { from = from; to = t.position - 1 }) (record { cap = (right -ℤ pos (line.slope * from)) +ℤ pos line.slack; place = from })
          (peak_moved f (λ x. right -ℤ pos (line.slope * x)) (pos line.slack) from (t.position - 1) from (λ x l m. caps x m)
          (falling_peak line.slope right from (t.position - 1) (omega arith)))
          (sym (caps from (omega arith)))

      pub between_is : (s : Summit) (l right : ℤ) → 0 < at → l ≡ left → right ≡ get_or falls at (pos 0) →
          Peak (roof line.slope l right) from (t.position - 1) s.place → s.cap ≡ roof line.slope l right s.place +ℤ pos line.slack →
          s ≡ summit_of f (record { from = from; to = t.position - 1 })
      between_is s l right z same r p c =
          let caps : (x : ℕ) → from ≤ x → x ≤ t.position - 1 → f x ≡ roof line.slope l right x +ℤ pos line.slack = λ x k m.
          ap (λ us. cap line us x) (sym join)
          ∙ both_sides line x L R (omega (arith, length-take-le at ts w.within)) some_right low_left low_right (behind_all x k) (ahead_all x m)
          ∙ ap (λ y. roof line.slope y (lowest (fall line.slope) R) x +ℤ pos line.slack) (sym (same ∙ w.left_is))
          ∙ ap (λ y. roof line.slope l y x +ℤ pos line.slack) (sym (r ∙ w.table.are at n)) in
          summit_is f (record { from = from; to = t.position - 1 }) s
          (peak_moved f (roof line.slope l right) (pos line.slack) from (t.position - 1) s.place caps p)
          (c ∙ sym (caps s.place p.low p.high))
