-- A line makes a call exactly where it is written so.
use Rattle.std.proofs.Common.{◌≡◌, ℕ, suc, ◌+◌, ◌^◌, ◌<◌, ◌≤◌, true, false, ◌&&◌, eqb, leb, List, [], ◌∷◌, ◌++◌, length, take, drop, Some, None, codes, decimal, Option, sym, refl, ap, ◌∙◌, subst, ⊎_elim, arith}
use Rattle.std.specs.Str.{bytes_eq, all_ascii_digits}
use Rattle.std.proofs.lemmas.Fmt.{digits_decimal, digits_value-decimal, length-decimal-le, decimal_nonempty}
use Rattle.std.proofs.lemmas.Slice.Eq.{bytes_eq-Decides}
use Rattle.std.proofs.lemmas.Bool.{eqb-true, eqb-false, ne_eqb, leb-true, le-leb, and_parts, and_from, cases_Bool, cond_both, cond-true, cond-false}
use Rattle.surveys.specs.declared.calls.Call.{Call}
use Rattle.surveys.specs.declared.calls.Call.TheVariants.{High, Left, At, Run, Tol, Ask}
use Rattle.commands.specs.Pieces.{Piece}
use Rattle.commands.specs.Lines.{space, before}
use Rattle.commands.specs.Orders.{Order, high, left, ask, at, run, tol, unknown, value, is_number, alone, numbered, perhaps_numbered, before_space, after_space, spaced, order_of, call_of}
use Rattle.commands.specs.Theorems.{Numbered, Written, CallsAsWritten, NumbersReadBack}
use Rattle.commands.proofs.Lines.{part_at}
use Rattle.texts.proofs.Digits.{by_weight}

is_it : (bs ds : List ℕ) → bytes_eq bs ds ≡ true → bs ≡ ds
is_it bs ds h = (bytes_eq-Decides bs ds).0 h

-- the order o makes no call but one that is written so
abbrev Tells : List ℕ → Order → Type 0
Tells bs o = (c : Call) → call_of o ≡ Some c → Written bs c

unknown_tells : (bs : List ℕ) (l : Piece) → Tells bs (unknown l)
unknown_tells bs l c h = let z : ◌≡◌ {A = ℕ} 0 1 = cc in absurd (omega arith)

one_call : (bs : List ℕ) (d : Call) → Written bs d → (c : Call) → Some d ≡ Some c → Written bs c
one_call bs d w c h = let e : d ≡ c = cc in subst (Written bs) e w

alone_tells : (l : Piece) → Tells l.bytes (alone l)
alone_tells l =
    let bs = l.bytes in
    cond_both (bytes_eq bs (codes "high")) (high l) _ (Tells bs) (λ e. one_call bs High (is_it bs (codes "high") e))
    (λ _. cond_both (bytes_eq bs (codes "left")) (left l) _ (Tells bs) (λ e. one_call bs Left (is_it bs (codes "left") e))
    (λ _. cond_both (bytes_eq bs (codes "ask")) (ask l) (unknown l) (Tells bs) (λ e. one_call bs Ask (is_it bs (codes "ask") e)) (λ _. unknown_tells bs l)))

-- the first space parts a line
abbrev parted : List ℕ → ℕ → List ℕ
parted bs n = take n bs ++ space ∷ drop (n + 1) bs

parted_more : (x : ℕ) (xs : List ℕ) (n : ℕ) → x ∷ parted xs n ≡ parted (x ∷ xs) (suc n)
parted_more x xs n = let k : suc (n + 1) ≡ suc n + 1 = omega arith in ap (λ m. x ∷ (take n xs ++ space ∷ drop m (x ∷ xs))) k

at-space : (bs : List ℕ) → (before space bs ≡ length bs → ⊥) → bs ≡ parted bs (before space bs)
at-space [] n = absurd (n refl)
at-space (x ∷ xs) n =
    ⊎_elim
    (λ e. ap (λ y. y ∷ xs) (eqb-true x space e) ∙ ap (parted (x ∷ xs)) (sym (cond-true (eqb x space) 0 (suc (before space xs)) e)))
    (λ e. let b : before space (x ∷ xs) ≡ suc (before space xs) = cond-false (eqb x space) 0 (suc (before space xs)) e in
    ap (λ ys. x ∷ ys) (at-space xs (λ q. n (b ∙ ap suc q))) ∙ parted_more x xs (before space xs) ∙ ap (parted (x ∷ xs)) (sym b))
    (cases_Bool (eqb x space))

abbrev Number : List ℕ → Type 0
Number ds = (1 ≤ length ds) × (length ds ≤ 5) × (all_ascii_digits ds ≡ true)

number_is : (ds : List ℕ) → is_number ds ≡ true → Number ds
number_is ds h =
    let a = and_parts (leb 1 (length ds)) (leb (length ds) 5 && all_ascii_digits ds) h in
    let b = and_parts (leb (length ds) 5) (all_ascii_digits ds) a.1 in
    (leb-true _ _ a.0, leb-true _ _ b.0, b.1)

is_one : (ds : List ℕ) → Number ds → is_number ds ≡ true
is_one ds h = and_from (leb 1 (length ds)) (leb (length ds) 5 && all_ascii_digits ds) (le-leb _ _ h.0) (and_from (leb (length ds) 5) (all_ascii_digits ds) (le-leb _ _ h.1) h.2)

written_with : (bs verb vs ds : List ℕ) → bs ≡ vs ++ space ∷ ds → Number ds → vs ≡ verb → Numbered verb bs (value ds)
written_with bs verb vs ds e h v = record { digits = ds; spaced = e ∙ ap (λ xs. xs ++ space ∷ ds) v; some = h.0; few = h.1; decimal = h.2; number = refl }

numbered_tells : (bs : List ℕ) (l v d : Piece) → bs ≡ v.bytes ++ space ∷ d.bytes → Number d.bytes → Tells bs (numbered l v d (value d.bytes))
numbered_tells bs l v d e h =
    let n = value d.bytes in
    cond_both (bytes_eq v.bytes (codes "at")) (at v d n) _ (Tells bs) (λ s. one_call bs (At n) (written_with bs (codes "at") v.bytes d.bytes e h (is_it _ _ s)))
    (λ _. cond_both (bytes_eq v.bytes (codes "run")) (run v d n) _ (Tells bs) (λ s. one_call bs (Run n) (written_with bs (codes "run") v.bytes d.bytes e h (is_it _ _ s)))
    (λ _. cond_both (bytes_eq v.bytes (codes "tol")) (tol v d n) (unknown l) (Tells bs) (λ s. one_call bs (Tol n) (written_with bs (codes "tol") v.bytes d.bytes e h (is_it _ _ s))) (λ _. unknown_tells bs l)))

spaced_tells : (l : Piece) → (before space l.bytes ≡ length l.bytes → ⊥) → Tells l.bytes (spaced l (before space l.bytes))
spaced_tells l ne =
    let bs = l.bytes in
    let n = before space bs in
    let d = after_space l n in
    cond_both (is_number d.bytes) (Some (value d.bytes)) None (λ o. Tells bs (perhaps_numbered l (before_space l n) d o))
    (λ e. numbered_tells bs l (before_space l n) d (at-space bs ne) (number_is d.bytes e))
    (λ _. unknown_tells bs l)

tells : (l : Piece) → Tells l.bytes (order_of l)
tells l =
    cond_both (eqb (before space l.bytes) (length l.bytes)) (alone l) (spaced l (before space l.bytes)) (Tells l.bytes)
    (λ _. alone_tells l)
    (λ e. spaced_tells l (eqb-false _ _ e))

-- what is written so makes the call
abbrev call_in : ℕ → List ℕ → Option Call
call_in p bs = call_of (order_of (part_at bs p))

at_call : (p : ℕ) (ds : List ℕ) → Number ds → call_in p (codes "at" ++ space ∷ ds) ≡ Some (At (value ds))
at_call p ds h =
    let e : eqb 2 (length (codes "at" ++ space ∷ ds)) ≡ false = ne_eqb 2 (length (codes "at" ++ space ∷ ds)) (λ z. omega arith) in
    let m = is_one ds h in
    rw (e, m) refl

run_call : (p : ℕ) (ds : List ℕ) → Number ds → call_in p (codes "run" ++ space ∷ ds) ≡ Some (Run (value ds))
run_call p ds h =
    let e : eqb 3 (length (codes "run" ++ space ∷ ds)) ≡ false = ne_eqb 3 (length (codes "run" ++ space ∷ ds)) (λ z. omega arith) in
    let m = is_one ds h in
    rw (e, m) refl

tol_call : (p : ℕ) (ds : List ℕ) → Number ds → call_in p (codes "tol" ++ space ∷ ds) ≡ Some (Tol (value ds))
tol_call p ds h =
    let e : eqb 3 (length (codes "tol" ++ space ∷ ds)) ≡ false = ne_eqb 3 (length (codes "tol" ++ space ∷ ds)) (λ z. omega arith) in
    let m = is_one ds h in
    rw (e, m) refl

makes : (l : Piece) (c : Call) → Written l.bytes c → call_of (order_of l) ≡ Some c
makes l High w = ap (call_in l.place) w
makes l Left w = ap (call_in l.place) w
makes l Ask w = ap (call_in l.place) w
makes l (At n) w = ap (call_in l.place) w.spaced ∙ at_call l.place w.digits (w.some, w.few, w.decimal) ∙ ap (λ k. Some (At k)) w.number
makes l (Run n) w = ap (call_in l.place) w.spaced ∙ run_call l.place w.digits (w.some, w.few, w.decimal) ∙ ap (λ k. Some (Run k)) w.number
makes l (Tol n) w = ap (call_in l.place) w.spaced ∙ tol_call l.place w.digits (w.some, w.few, w.decimal) ∙ ap (λ k. Some (Tol k)) w.number

pub calls_as_written : CallsAsWritten
calls_as_written l c = (tells l c, makes l c)

pub numbers_read_back : NumbersReadBack
numbers_read_back n h =
    let big : n < 2 ^ 64 = omega arith in
    let some = decimal_nonempty n big in
    let m = is_one (decimal n) (omega arith, length-decimal-le 5 n (omega arith) (omega arith) big, digits_decimal by_weight n big) in
    cond-true (is_number (decimal n)) (Some (value (decimal n))) None m ∙ ap Some (digits_value-decimal by_weight n big)
