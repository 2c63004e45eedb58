-- Lists whose items stand in order, and the pick of rising positions.
use Rattle.std.proofs.Common.{◌≡◌, ℕ, zero, suc, ◌+◌, ◌<◌, ◌≤◌, Bool, true, List, [], ◌∷◌, ◌++◌, map, drop, ℤ, ◌≤ℤ◌, ◌<ℤ◌, filter, sym, subst, ⊎_elim, arith}
use borrow.Author.Differences.{ints}
use Rattle.std.specs.List.{range_with_len, AllByRecursion}
use Rattle.std.proofs.ByRecursion.{All-weaker, All-append, all_kept_by}
use Rattle.std.proofs.lemmas.Bool.{cond_both, cases_eq, both_ways}
use Rattle.pick.specs.Picks.{Leads}
use Rattle.caps.specs.Touches.{InOrder}

pub all_zip : {X : Type 0} (P Q R : X → Type 0) → ((x : X) → P x → Q x → R x) → (xs : List X) → AllByRecursion P xs → AllByRecursion Q xs → AllByRecursion R xs
all_zip P Q R f [] p q = tt
all_zip P Q R f (x ∷ xs) p q = (f x p.0 q.0, all_zip P Q R f xs p.1 q.1)

pub from_map : {X Y : Type 0} (P : X → Type 0) (f : Y → X) (ys : List Y) → AllByRecursion P (map f ys) → AllByRecursion (λ y. P (f y)) ys
from_map P f [] h = tt
from_map P f (y ∷ ys) h = (h.0, from_map P f ys h.1)

pub parts : {X : Type 0} (P : X → Type 0) (xs : List X) (y : X) (ys : List X) → AllByRecursion P (xs ++ (y ∷ ys)) → AllByRecursion P xs × P y × AllByRecursion P ys
parts P [] y ys h = (tt, h.0, h.1)
parts P (x ∷ xs) y ys h = let r = parts P xs y ys h.1 in ((h.0, r.0), r.1, r.2)

-- What stands in a list in order stands so to what comes after it.
pub order_after : {X : Type 0} (R : X → X → Type 0) (xs : List X) (y : X) (ys : List X) → InOrder R (xs ++ (y ∷ ys)) → AllByRecursion (R y) ys
order_after R [] y ys h = h.0
order_after R (x ∷ xs) y ys h = order_after R xs y ys h.1

pub order-drop : {X : Type 0} (R : X → X → Type 0) (n : ℕ) (xs : List X) → InOrder R xs → InOrder R (drop n xs)
order-drop R zero xs h = h
order-drop R (suc n) [] h = tt
order-drop R (suc n) (x ∷ xs) h = order-drop R n xs h.1

pub counting_all : (P : ℕ → Type 0) (a n : ℕ) → ((x : ℕ) → a ≤ x → x < a + n → P x) → AllByRecursion P (range_with_len a n)
counting_all P a zero h = tt
counting_all P a (suc n) h = (h a (omega arith) (omega arith), counting_all P (a + 1) n (λ x l m. h x (omega arith) (omega arith)))

pub all_counting : (P : ℕ → Type 0) (a n : ℕ) → AllByRecursion P (range_with_len a n) → (x : ℕ) → a ≤ x → x < a + n → P x
all_counting P a zero h x l m = absurd (omega arith)
all_counting P a (suc n) h x l m = ⊎_elim (λ e. subst P e h.0) (λ ne. all_counting P (a + 1) n h.1 x (omega arith) (omega arith)) (cases_eq a x)

pub counting_climbs : (a n : ℕ) → InOrder ◌<◌ (range_with_len a n)
counting_climbs a zero = tt
counting_climbs a (suc n) = (counting_all (λ y. a < y) (a + 1) n (λ x l m. omega arith), counting_climbs (a + 1) n)

pub kept_in_order : {X : Type 0} (R : X → X → Type 0) (test : X → Bool) (xs : List X) → InOrder R xs → InOrder R (filter test xs)
kept_in_order R test [] h = tt
kept_in_order R test (x ∷ xs) h =
    cond_both (test x) (x ∷ filter test xs) (filter test xs) (InOrder R) (λ e. (all_kept_by test (R x) xs h.0, kept_in_order R test xs h.1)) (λ e. kept_in_order R test xs h.1)

-- What all that are kept have, each that passes the test has.
pub kept_all : {X : Type 0} (P : X → Type 0) (test : X → Bool) (xs : List X) → AllByRecursion P (filter test xs) → AllByRecursion (λ x. test x ≡ true → P x) xs
kept_all P test [] = λ h. tt
kept_all P test (x ∷ xs) =
    cond_both (test x) (x ∷ filter test xs) (filter test xs) (λ ys. AllByRecursion P ys → AllByRecursion (λ y. test y ≡ true → P y) (x ∷ xs))
    (λ e h. ((λ t. h.0), kept_all P test xs h.1)) (λ e h. ((λ t. absurd (both_ways (test x) e t)), kept_all P test xs h))

-- Of rising positions the one that leads is the lowest of largest f.
pub leads_tops : (f : ℕ → ℤ) (xs : List ℕ) (p : ℕ) → InOrder ◌<◌ xs → Leads f xs p → AllByRecursion (λ x. (f x ≤ℤ f p) × (x < p → f x <ℤ f p)) xs
leads_tops f xs p c l =
    let W : ℕ → Type 0 = λ x. (f x ≤ℤ f p) × (x < p → f x <ℤ f p) in
    subst (AllByRecursion W) (sym l.there)
    (All-append W l.before (p ∷ l.after)
    (All-weaker (λ x. f x <ℤ f p) W (λ x k. (omega (arith, ints), λ m. k)) l.before l.lower) (
      (omega (arith, ints), λ m. absurd (omega arith)),
      all_zip (λ x. f x ≤ℤ f p) (λ x. p < x) W (λ x k m. (k, λ n. absurd (omega arith))) l.after l.most
          (order_after ◌<◌ l.before p l.after (subst (InOrder ◌<◌) l.there c)),
    ))

pub leads_has : {X : Type 0} (f : X → ℤ) (P : X → Type 0) (xs : List X) (x : X) → Leads f xs x → AllByRecursion P xs → P x
leads_has f P xs x l h = (parts P l.before x l.after (subst (AllByRecursion P) l.there h)).1
