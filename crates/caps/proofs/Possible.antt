-- The caps are the greatest possible sheet.
use Rattle.std.proofs.Common.{◌≡◌, ℕ, zero, suc, ◌+◌, ◌-◌, ◌<◌, ◌≤◌, true, ◌≢◌, ◌⊎◌, ◌↔◌, List, [], ◌∷◌, get_or, ℤ, pos, ◌+ℤ◌, ◌≤ℤ◌, sym, refl, ap, ◌∙◌, inl, inr, ⊎_elim, arith}
use lib.Signed.{le_z}
use borrow.Author.Differences.{ints}
use Rattle.std.specs.List.{AllByRecursion}
use Rattle.std.proofs.ByRecursion.{All-weaker}
use Rattle.std.proofs.lemmas.Bool.{cases_eq, eq-eqb, ne_eqb, cond-true, cond-false}
use Rattle.std.proofs.lemmas.List.FromFn.{length-map-range_with_len, get_or-map-range_with_len}
use Rattle.terms.specs.Meaning.{Keeps}
use Rattle.caps.specs.declared.Touch.{Touch}
use Rattle.caps.specs.declared.Line.{Line}
use Rattle.caps.specs.Touches.{Rising, Agree, LawfulTouches, Untouched}
use Rattle.caps.specs.Stretches.{whole}
use Rattle.caps.specs.Caps.{least, height_or, reach, cap, ceiling, floor, sheet_of_caps, Possible, NoneAbove}
use Rattle.caps.specs.Outlooks.{is_settled}
use Rattle.caps.proofs.Lists.{all_zip}
use Rattle.caps.proofs.Extremes.{least_same}
use Rattle.caps.proofs.Extension.{from, extension, extension_at, extension_lawful, below_extension}
use Rattle.caps.proofs.Room.{room, room_self, room_apart, room_same, room_tri, room_within}
use Rattle.caps.proofs.Peaks.{top_above, above_top}

-- x is touched, at a touch that has whatever every touch has, or untouched.
pub touched_or : (P : Touch → Type 0) (ts : List Touch) (x : ℕ) (z : ℤ) → AllByRecursion P ts →
    ((t : Touch) × P t × (t.position ≡ x) × (height_or ts x z ≡ t.height)) ⊎ (Untouched ts x × (height_or ts x z ≡ z))
touched_or P [] x z h = inr (tt, refl)
touched_or P (t ∷ ts) x z h =
    ⊎_elim
    (λ e. inl (t, h.0, e, cond-true _ _ _ (eq-eqb _ _ e)))
    (λ n.
    let c : height_or (t ∷ ts) x z ≡ height_or ts x z = cond-false _ _ _ (ne_eqb _ _ n) in
    ⊎_elim (λ r. inl (r.0, r.1, r.2, c ∙ r.3)) (λ r. inr ((n, r.0), c ∙ r.1)) (touched_or P ts x z h.1))
    (cases_eq t.position x)

abbrev One : Touch → Touch → Type 0
One t u = t.position ≡ u.position → t.height ≡ u.height

one_each : (ts : List Touch) → Rising ts → AllByRecursion (λ t. AllByRecursion (One t) ts) ts
one_each [] r = tt
one_each (t ∷ ts) r = (
  (λ e. refl, All-weaker (λ u. t.position < u.position) (One t) (λ u l e. absurd (omega arith)) ts r.0),
  all_zip (λ u. t.position < u.position) (λ u. AllByRecursion (One u) ts) (λ u. AllByRecursion (One u) (t ∷ ts)) (λ u l q. ((λ e. absurd (omega arith)), q)) ts r.0 (one_each ts r.1),
)

module _ (line : Line) where
  abbrev pub R : ℕ → ℕ → ℕ
  R = room line.slope line.slack

  keeps_room : (x y : ℕ) (g h : ℤ) → Keeps line.slope line.slack x y g h → (x ≡ y → g ≡ h) → g ≤ℤ (h +ℤ pos (R y x))
  keeps_room x y g h k one =
      ⊎_elim (λ e. let s = one e in omega (arith, ints)) (λ n. omega (arith, ints, room_apart line.slope line.slack x y n, room_same line.slope line.slack x y)) (cases_eq x y)

  touches_room : (ts : List Touch) → LawfulTouches line ts → AllByRecursion (λ t. AllByRecursion (λ u. t.height ≤ℤ from R t.position u) ts) ts
  touches_room ts h =
      all_zip (λ t. AllByRecursion (Agree line t) ts) (λ t. AllByRecursion (One t) ts) (λ t. AllByRecursion (λ u. t.height ≤ℤ from R t.position u) ts)
      (λ t k o. all_zip (Agree line t) (One t) (λ u. t.height ≤ℤ from R t.position u)
      (λ u k o. keeps_room t.position u.position t.height u.height k o) ts k o)
      ts h.lawful (one_each ts h.on_line.rising)

  module _ (a : Touch) (ts : List Touch) (touches : LawfulTouches line (a ∷ ts)) where
    self : (x : ℕ) → R x x ≡ 0
    self = room_self line.slope line.slack

    same : (x y : ℕ) → R x y ≡ R y x
    same = room_same line.slope line.slack

    tri : (x y z : ℕ) → R x z ≤ R x y + R y z
    tri = room_tri line.slope line.slack

    at_touches : AllByRecursion (λ t. extension R a ts t.position ≡ t.height) (a ∷ ts)
    at_touches = extension_at R self same tri a ts (touches_room (a ∷ ts) touches)

    -- The caps are the extension of the touches.
    pub cap_is : (x : ℕ) → cap line (a ∷ ts) x ≡ extension R a ts x
    cap_is x =
        ⊎_elim
        (λ r. r.3 ∙ sym r.1 ∙ ap (extension R a ts) r.2)
        (λ r. r.1 ∙ least_same (reach line x) (from R x) a ts
        (All-weaker (λ t. t.position ≢ x) (λ t. reach line x t ≡ from R x t) (λ t n. ap (λ k. t.height +ℤ pos k) (sym (room_apart line.slope line.slack t.position x n))) (a ∷ ts) r.0))
        (touched_or (λ t. extension R a ts t.position ≡ t.height) (a ∷ ts) x (least (reach line x) a ts) at_touches)

    caps_at : (x : ℕ) → x ≤ line.last → get_or (sheet_of_caps line (a ∷ ts)) x (pos 0) ≡ extension R a ts x
    caps_at zero l = cap_is 0
    caps_at (suc x) l = get_or-map-range_with_len (cap line (a ∷ ts)) (0 + 1) (line.last - 0) x (suc x) (pos 0) (omega arith) (omega arith) ∙ cap_is (suc x)

    pub caps_possible : Possible line (a ∷ ts) (sheet_of_caps line (a ∷ ts))
    caps_possible = record {
      long = omega (arith, length-map-range_with_len (cap line (a ∷ ts)) (0 + 1) (line.last - 0));
      touched = all_zip (λ t. t.position ≤ line.last) (λ t. extension R a ts t.position ≡ t.height) (λ t. get_or (sheet_of_caps line (a ∷ ts)) t.position (pos 0) ≡ t.height)
          (λ t l e. caps_at t.position l ∙ e) (a ∷ ts) touches.on_line.within at_touches;
      lawful = λ x y l m.
          let p = extension_lawful R self same tri a ts x y in
          let q = extension_lawful R self same tri a ts y x in
          omega (arith, ints, caps_at x l, caps_at y m, p, q, same x y, room_within line.slope line.slack x y);
    }

    pub possible_below : (s : List ℤ) → Possible line (a ∷ ts) s → (x : ℕ) → x ≤ line.last → get_or s x (pos 0) ≤ℤ cap line (a ∷ ts) x
    possible_below s h x l =
        let at : ℕ → ℤ = λ y. get_or s y (pos 0) in
        let b = below_extension R self same tri a ts at x h.touched
        (All-weaker (λ t. t.position ≤ line.last) (λ t. at x ≤ℤ (at t.position +ℤ pos (R t.position x)))
        (λ t m. keeps_room x t.position (at x) (at t.position) (h.lawful x t.position l m) (λ e. ap at e)) (a ∷ ts) touches.on_line.within) in
        omega (arith, ints, cap_is x)

    -- The ceiling is the largest height of any possible sheet.
    pub ceiling_exactly : (z : ℤ) → (ceiling line (a ∷ ts) ≤ℤ z) ↔ NoneAbove line (a ∷ ts) z
    ceiling_exactly z = (
      (λ c s p x l. let b = possible_below s p x l in let u = top_above (cap line (a ∷ ts)) (whole line) x (omega arith) l in omega (arith, ints)),
      λ none. above_top (cap line (a ∷ ts)) z (whole line) (omega arith)
          (λ x l m. let b = none (sheet_of_caps line (a ∷ ts)) caps_possible x m in omega (arith, ints, caps_at x m, cap_is x)),
    )

-- Whether a number is at most another.
pub at_most : (y z : ℤ) → (le_z y z ≡ true) ↔ (y ≤ℤ z)
at_most y z = ((λ e. grind (arith, ints)), λ h. grind (arith, ints))

pub settled_exactly : (line : Line) (a : Touch) (ts : List Touch) (tolerance : ℕ) → LawfulTouches line (a ∷ ts) →
    (is_settled line (a ∷ ts) tolerance ≡ true) ↔ NoneAbove line (a ∷ ts) ((floor a ts).height +ℤ pos tolerance)
settled_exactly line a ts tolerance h =
    let z : ℤ = (floor a ts).height +ℤ pos tolerance in
    let e = ceiling_exactly line a ts h z in
    let m = at_most (ceiling line (a ∷ ts)) z in
    ((λ t. e.0 (m.0 t)), λ n. m.1 (e.1 n))
