-- The law of a layer on one gauge and of a layer on two, for any function of heights that keeps range and nearness.
use Rattle.std.proofs.Common.{◌≡◌, ℕ, ◌+◌, ◌*◌, ◌≤◌, min, ℤ, ◌-ℤ◌, nat_abs, Ok, Err, sym, refl, ap, ◌∙◌, arith}
use Rattle.terms.specs.declared.fault.Fault.{Fault}
use Rattle.terms.specs.declared.fault.Cause.TheVariants.{Unread}
use Rattle.terms.specs.Faults.{raised, beyond, layer_name}
use Rattle.terms.specs.Limits.{slope_max, slack_max}
use Rattle.terms.specs.Meaning.{Meaning, Reading, Lawful, Height, distance}
use Rattle.gauges.specs.Layering.{over, joined, over_meaning, join_meaning}
use Rattle.gauges.specs.Reach.{within_is, past_is, up_to_ok, up_to_asked}

-- f keeps heights in range, and near: at the slack u after it where they were near at the slack s
pub record KeepsNear (f : ℤ → ℤ) (s u : ℕ) : Type 0 where
  pub range : (x : ℤ) → Height x → Height (f x)
  pub near : (d : ℕ) (x y : ℤ) → Height x → Height y → nat_abs (x -ℤ y) ≤ d + s → nat_abs (f x -ℤ f y) ≤ d + u

-- f joins heights of m and n in range, and near at the slope s and the slack u
pub record JoinsNear (f : ℤ → ℤ → ℤ) (m n : Meaning) (s u : ℕ) : Type 0 where
  pub range : (a b : ℤ) → Height a → Height b → Height (f a b)
  pub near : (d : ℕ) (a b x y : ℤ) → nat_abs (a -ℤ x) ≤ m.slope * d + m.slack → nat_abs (b -ℤ y) ≤ n.slope * d + n.slack → nat_abs (f a b -ℤ f x y) ≤ s * d + u

record FromHeight (f : ℤ → ℤ) (r : Reading) (h : ℤ) : Type 0 where
  was : ℤ
  read : r ≡ Ok was
  value : h ≡ f was

over_ok : (f : ℤ → ℤ) (r : Reading) (h : ℤ) → over f r ≡ Ok h → FromHeight f r h
over_ok f (Ok x) h e = record { was = x; read = refl; value = cc }
over_ok f (Err x) h e = cc

over_err : (f : ℤ → ℤ) (r : Reading) (e : Fault) → over f r ≡ Err e → (d : Fault) × (r ≡ Err d) × (e ≡ raised d)
over_err f (Ok x) e i = cc
over_err f (Err d) e i = (d, refl, cc)

pub over_lawful : (f : ℤ → ℤ) (u : ℕ) (m : Meaning) → Lawful m → u ≤ slack_max → KeepsNear f m.slack u → Lawful (over_meaning f u m)
over_lawful f u m l cap keeps = record {
  last_low = l.last_low;
  last_high = l.last_high;
  slope_low = l.slope_low;
  slope_high = l.slope_high;
  slack_high = cap;
  heights = λ p h e. let o = over_ok f (m.reading p) h e in rw o.value (keeps.range o.was (l.heights p o.was o.read));
  missing = λ p e w i. let o = over_err f (m.reading p) e i in ap (λ (x : Fault). x.cause) o.2 ∙ l.missing p o.0 w o.1;
  past = λ p w. let b = l.past p w in (raised b.0, ap (over f) b.1, b.2);
  asked = λ p e i. let o = over_err f (m.reading p) e i in ap (λ (x : Fault). x.position) o.2 ∙ l.asked p o.0 o.1;
  near = λ p q h k eh ek.
      let o = over_ok f (m.reading p) h eh in
      let v = over_ok f (m.reading q) k ek in
      rw (o.value, v.value)
      (keeps.near (m.slope * distance p q) o.was v.was (l.heights p o.was o.read) (l.heights q v.was v.read) (l.near p q o.was v.was o.read v.read));
}

record Both (f : ℤ → ℤ → ℤ) (r s : Reading) (h : ℤ) : Type 0 where
  a : ℤ
  b : ℤ
  left : r ≡ Ok a
  right : s ≡ Ok b
  value : h ≡ f a b

joined_ok : (f : ℤ → ℤ → ℤ) (r s : Reading) (h : ℤ) → joined f r s ≡ Ok h → Both f r s h
joined_ok f (Ok x) (Ok y) h e = record { a = x; b = y; left = refl; right = refl; value = cc }
joined_ok f (Ok x) (Err y) h e = cc
joined_ok f (Err x) s h e = cc

-- what raising keeps of each gauge's fault holds of the joined fault
joined_err : (P : Fault → Type 0) → ((d : Fault) → P d → P (raised d)) → (f : ℤ → ℤ → ℤ) (r s : Reading) (e : Fault) → joined f r s ≡ Err e → ((d : Fault) → r ≡ Err d → P d) → ((d : Fault) → s ≡ Err d → P d) → P e
joined_err P up f (Ok x) (Ok y) e q u v = cc
joined_err P up f (Ok x) (Err y) e q u v = let k : e ≡ raised y = cc in rw k (up y (v y refl))
joined_err P up f (Err x) s e q u v = let k : e ≡ raised x = cc in rw k (up x (u x refl))

pub join_lawful : (f : ℤ → ℤ → ℤ) (s u : ℕ) (m n : Meaning) → Lawful m → Lawful n → (1 ≤ s) × (s ≤ slope_max) → u ≤ slack_max → JoinsNear f m n s u → Lawful (join_meaning f s u m n)
join_lawful f s u m n l r slopes cap joins = record {
  last_low = omega (arith, l.last_low, r.last_low);
  last_high = omega (arith, l.last_high);
  slope_low = slopes.0;
  slope_high = slopes.1;
  slack_high = cap;
  heights = λ p h e. let b = pair p h e in rw b.value (joins.range b.a b.b (l.heights p b.a b.left) (r.heights p b.b b.right));
  missing = λ p e w i.
      joined_err (λ x. x.cause ≡ Unread) (λ d c. c) f (m.reading p) (n.reading p) e (sym (within_is (min m.last n.last) layer_name p _ w) ∙ i)
      (λ d j. l.missing p d (omega arith) j)
      (λ d j. r.missing p d (omega arith) j);
  past = λ p w. (beyond p layer_name, past_is (min m.last n.last) layer_name p _ w, refl);
  asked = λ p e i.
      up_to_asked (min m.last n.last) layer_name p (joined f (m.reading p) (n.reading p)) e
      (λ x j. joined_err (λ y. y.position ≡ p) (λ d c. c) f (m.reading p) (n.reading p) x j (l.asked p) (r.asked p))
      i;
  near = λ p q h k eh ek.
      let b = pair p h eh in
      let d = pair q k ek in
      rw (b.value, d.value)
      (joins.near (distance p q) b.a b.b d.a d.b (l.near p q b.a d.a b.left d.left) (r.near p q b.b d.b b.right d.right));
}
  where
    pair : (p : ℕ) (h : ℤ) → (join_meaning f s u m n).reading p ≡ Ok h → Both f (m.reading p) (n.reading p) h
    pair p h e = joined_ok f (m.reading p) (n.reading p) h (up_to_ok (min m.last n.last) layer_name p _ h e)
