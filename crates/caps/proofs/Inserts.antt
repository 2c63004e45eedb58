-- More touches.
use Rattle.std.proofs.Common.{◌≡◌, ℕ, ◌*◌, ◌<◌, ◌≤◌, ltb, List, [], ◌∷◌, map, ◌≤ℤ◌, Some, sym, refl, ap, subst, arith}
use borrow.Author.Differences.{ints}
use Rattle.std.specs.List.{ContainsAt as Has, AllByRecursion}
use Rattle.std.proofs.ByRecursion.{All-weaker, all-has, all_has_itself, All-map}
use Rattle.std.proofs.lemmas.Bool.{cond_both, ltb-true, ltb-false}
use Rattle.terms.specs.Meaning.{distance}
use Rattle.caps.specs.declared.Touch.{Touch}
use Rattle.caps.specs.declared.Line.{Line}
use Rattle.caps.specs.declared.Outlook.{Outlook}
use Rattle.caps.specs.Touches.{Rising, OnLine, Agree, LawfulTouches, Untouched, insert}
use Rattle.caps.specs.Stretches.{whole}
use Rattle.caps.specs.Caps.{cap, ceiling, floor, Apart}
use Rattle.caps.specs.Outlooks.{seen, outlook}
use Rattle.caps.specs.Laws.{NoWorse, MayTouch}
use Rattle.caps.proofs.Lists.{all_zip, from_map}
use Rattle.caps.proofs.Extremes.{below_least, least_below, first_has, below_first}
use Rattle.caps.proofs.Extension.{from, extension}
use Rattle.caps.proofs.Room.{distance_same}
use Rattle.caps.proofs.Peaks.{top_above, above_top}
use Rattle.caps.proofs.Possible.{R, cap_is}

-- Touches that have the touches a and ts among them.
pub more_touches : (line : Line) (a : Touch) (ts : List Touch) (b : Touch) (us : List Touch) → LawfulTouches line (a ∷ ts) → LawfulTouches line (b ∷ us) → AllByRecursion (Has (b ∷ us)) (a ∷ ts) →
    ((x : ℕ) → cap line (b ∷ us) x ≤ℤ cap line (a ∷ ts) x) × (ceiling line (b ∷ us) ≤ℤ ceiling line (a ∷ ts)) × ((floor a ts).height ≤ℤ (floor b us).height)
more_touches line a ts b us ta tb sub =
    let r : ℕ → ℕ → ℕ = R line in
    let lower : (x : ℕ) → cap line (b ∷ us) x ≤ℤ cap line (a ∷ ts) x = λ x.
    let l = below_least (from r x) (extension r b us x) a ts
    (All-weaker (Has (b ∷ us)) (λ t. extension r b us x ≤ℤ from r x t) (λ t m. all-has (λ u. extension r b us x ≤ℤ from r x u) (b ∷ us) t (least_below (from r x) b us) m) (a ∷ ts) sub) in
    omega (arith, ints, cap_is line a ts ta x, cap_is line b us tb x) in (
      lower,
      above_top (cap line (b ∷ us)) (ceiling line (a ∷ ts)) (whole line) (omega arith) (λ x l m. let u = top_above (cap line (a ∷ ts)) (whole line) x l m in omega (arith, ints, lower x)),
      first_has (λ t. t.height) (λ t. t.height ≤ℤ (floor b us).height) a ts
          (All-weaker (Has (b ∷ us)) (λ t. t.height ≤ℤ (floor b us).height) (λ t m. all-has (λ u. u.height ≤ℤ (floor b us).height) (b ∷ us) t (below_first (λ t. t.height) b us) m) (a ∷ ts) sub),
    )

pub insert_in : (P : Touch → Type 0) (u : Touch) (ts : List Touch) → P u → AllByRecursion P ts → AllByRecursion P (insert u ts)
insert_in P u [] p h = (p, h)
insert_in P u (t ∷ ts) p h = cond_both (ltb u.position t.position) (u ∷ (t ∷ ts)) (t ∷ insert u ts) (AllByRecursion P) (λ e. (p, h)) (λ e. (h.0, insert_in P u ts p h.1))

pub insert_out : (P : Touch → Type 0) (u : Touch) (ts : List Touch) → AllByRecursion P (insert u ts) → AllByRecursion P (u ∷ ts)
insert_out P u [] = λ h. h
insert_out P u (t ∷ ts) =
    cond_both (ltb u.position t.position) (u ∷ (t ∷ ts)) (t ∷ insert u ts) (λ xs. AllByRecursion P xs → AllByRecursion P (u ∷ (t ∷ ts))) (λ e h. h)
    (λ e h. let r = insert_out P u ts h.1 in (r.0, (h.0, r.1)))

pub insert_rising : (u : Touch) (ts : List Touch) → Rising ts → Untouched ts u.position → Rising (insert u ts)
insert_rising u [] r n = (tt, tt)
insert_rising u (t ∷ ts) r n =
    cond_both (ltb u.position t.position) (u ∷ (t ∷ ts)) (t ∷ insert u ts) Rising
    (λ e. let l = ltb-true _ _ e in ((l, All-weaker (λ v. t.position < v.position) (λ v. u.position < v.position) (λ v k. omega arith) ts r.0), r))
    (λ e. (insert_in (λ v. t.position < v.position) u ts (omega (arith, ltb-false u.position t.position e, n.0)) r.0, insert_rising u ts r.1 n.1))

pub insert_on_line : (line : Line) (u : Touch) (ts : List Touch) → OnLine line ts → u.position ≤ line.last → Untouched ts u.position → OnLine line (insert u ts)
insert_on_line line u ts h l n = record { within = insert_in (λ t. t.position ≤ line.last) u ts l h.within; rising = insert_rising u ts h.rising n }

pub every_touch_stays : (u : Touch) (ts : List Touch) → AllByRecursion (Has (insert u ts)) (u ∷ ts)
every_touch_stays u ts = insert_out (Has (insert u ts)) u ts (all_has_itself (insert u ts))

pub stays_lawful : (line : Line) (u : Touch) (ts : List Touch) → LawfulTouches line ts → MayTouch line u ts → LawfulTouches line (insert u ts)
stays_lawful line u ts h m =
    let K : Touch → Touch → Type 0 = Agree line in
    record {
      on_line = insert_on_line line u ts h.on_line m.within m.free;
      lawful = insert_in (λ t. AllByRecursion (K t) (insert u ts)) u ts
          (insert_in (K u) u ts (omega (arith, ints)) (All-weaker (λ t. K t u) (K u) (λ t q. omega (arith, ints, ap (λ d. line.slope * d) (distance_same t.position u.position))) ts m.lawful))
          (all_zip (λ t. K t u) (λ t. AllByRecursion (K t) ts) (λ t. AllByRecursion (K t) (insert u ts)) (λ t p q. insert_in (K t) u ts p q) ts m.lawful h.lawful);
    }

-- A list with an item has a first one.
first_of : (us : List Touch) (u : Touch) → Has us u → (b : Touch) × (vs : List Touch) × (us ≡ b ∷ vs)
first_of [] u h = absurd (omega (arith, h.1))
first_of (b ∷ vs) u h = (b, vs, refl)

pub never_worse : (line : Line) (u : Touch) (ts : List Touch) (o : Outlook) → LawfulTouches line ts → MayTouch line u ts → outlook line ts ≡ Some o → NoWorse line ts (insert u ts) o
never_worse line u [] o h m e = let z : ◌≡◌ {A = ℕ} 0 1 = cc in absurd (omega arith)
never_worse line u (a ∷ ts) o h m e =
    let stay = every_touch_stays u (a ∷ ts) in
    let f = first_of (insert u (a ∷ ts)) u stay.0 in
    let told : Outlook = seen line f.0 f.1 in
    let more = more_touches line a ts f.0 f.1 h (subst (LawfulTouches line) f.2 (stays_lawful line u (a ∷ ts) h m)) (subst (λ us. AllByRecursion (Has us) (a ∷ ts)) f.2 stay.1) in
    let is : o ≡ seen line a ts = cc in
    record {
      told = told;
      is_told = ap (outlook line) f.2;
      caps = subst (λ us. (x : ℕ) → cap line us x ≤ℤ cap line (a ∷ ts) x) (sym f.2) more.0;
      ceiling = subst (λ p. told.ceiling ≤ℤ p.ceiling) (sym is) more.1;
      floor = subst (λ p. p.floor.height ≤ℤ told.floor.height) (sym is) more.2;
    }

-- A touch far from touches that lie apart leaves them so.
pub stays_apart : (d : ℕ) (u : Touch) (ts : List Touch) → Apart d (map (λ t. t.position) ts) → AllByRecursion (λ t. d ≤ distance t.position u.position) ts → Apart d (map (λ t. t.position) (insert u ts))
stays_apart d u [] h f = (tt, tt)
stays_apart d u (t ∷ ts) h f =
    cond_both (ltb u.position t.position) (u ∷ (t ∷ ts)) (t ∷ insert u ts) (λ xs. Apart d (map (λ t. t.position) xs))
    (λ e. (
      All-map (λ q. d ≤ distance u.position q) (λ t. t.position) (t ∷ ts)
          (All-weaker (λ v. d ≤ distance v.position u.position) (λ v. d ≤ distance u.position v.position) (λ v l. omega (arith, distance_same u.position v.position)) (t ∷ ts) f),
      h,
    ))
    (λ e. (
      All-map (λ q. d ≤ distance t.position q) (λ t. t.position) (insert u ts)
          (insert_in (λ v. d ≤ distance t.position v.position) u ts f.0 (from_map (λ q. d ≤ distance t.position q) (λ v. v.position) ts h.0)),
      stays_apart d u ts h.1 f.1,
    ))
