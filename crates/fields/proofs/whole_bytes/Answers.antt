use Rattle.std.proofs.Common.{◌≡◌, ℕ, ◌+◌, ◌*◌, ◌%◌, ◌^◌, ◌<◌, ◌≤◌, List, [], ◌∷◌, ◌++◌, length, get_or, sym, ap, ◌∙◌, ⊎_elim, length-append, Option, arith, pow_mono, rules}
use lib.Bits.{bit_or}
use Rattle.std.proofs.lemmas.Nat.{or_shifted, shl_whole}
use Rattle.std.proofs.lemmas.Bool.{cases_lt}
use Rattle.std.proofs.lemmas.List.{get_or_past}
use Rattle.std.proofs.lemmas.Fn.{fold_over, fronts, slice_gives}
use Rattle.std.proofs.lemmas.Grind.{common_steps}
use Rattle.std.specs.Fn.{Called}
use Rattle.std.specs.Iterator.{AlwaysYields, Drains}
use Rattle.std.specs.List.{FoldsTo}
use denote.Param.Members.{Mut}
use denote.Ref.{Bor}
use Rattle.fields.specs.Bits.{field_of}
use Rattle.fields.proofs.Laws.{field_none, field_byte_added, field_lt}
use Rattle.fields.proofs.whole_bytes.Goals as goal

abbrev Bytes : List ℕ → Type 0
Bytes bs = (i : ℕ) → get_or bs i 0 < 256

front_bytes : (bs : List ℕ) (b : ℕ) → Bytes (bs ++ b ∷ []) → Bytes bs
front_bytes bs b small i =
    ⊎_elim
    (λ l. let e : get_or (bs ++ b ∷ []) i 0 ≡ get_or bs i 0 = grind (arith, common_steps) in omega (arith, e, small i))
    (λ l. let e = get_or_past bs i 0 l in omega (arith, e))
    (cases_lt i (length bs))

last_byte : (bs : List ℕ) (b : ℕ) → Bytes (bs ++ b ∷ []) → b < 256
last_byte bs b small = let e : get_or (bs ++ b ∷ []) (length bs) 0 ≡ b = grind (arith, common_steps) in omega (arith, e, small (length bs))

abbrev Wholes : List ℕ → ℕ → Type 0
Wholes bs whole = Bytes bs → length bs ≤ 4 → whole ≡ field_of bs 0 (8 * length bs)

one_more : (bs : List ℕ) (whole b : ℕ) → Wholes bs whole → Bytes (bs ++ b ∷ []) → length (bs ++ b ∷ []) ≤ 4
    → bit_or (whole * 256 % 2 ^ 32) b ≡ field_of (bs ++ b ∷ []) 0 (8 * length (bs ++ b ∷ []))
one_more bs whole b h small few =
    let n : 8 * length bs ≤ 24 = omega (arith, length-append bs (b ∷ [])) in
    let e : whole ≡ field_of bs 0 (8 * length bs) = h (front_bytes bs b small) (omega (arith, n)) in
    let m : whole < 2 ^ 24 = omega (arith, e, field_lt bs 0 (8 * length bs), pow_mono n) in
    ap (λ x. bit_or x b) (shl_whole whole 24 8 32 m (omega arith))
    ∙ or_shifted whole 8 b (last_byte bs b small) ∙ ap (λ x. x * 256 + b) e ∙ sym (field_byte_added bs b (last_byte bs b small))

folded : {S F : Type 0} (steps : S → Option (Bor ℕ) → S → Type 0) (g : Mut F (ℕ × (Bor ℕ × Unit {0})) ℕ) (f : F) (s : S) (all : List ℕ) (r : ℕ)
    → AlwaysYields steps (λ y. y.now) s all
    → (xs : List (Bor ℕ)) × (f' : F) × Drains steps s xs × FoldsTo {P = F × ℕ} (λ p x q. Called g p.0 (p.1, (x, tt)) q.1 q.0) (f, 0) xs (f', r)
    → ((a : ℕ) (x : Bor ℕ) (b : ℕ) (f' : F) → Called g f (a, (x, tt)) b f' → (b ≡ bit_or (a * 256 % 2 ^ 32) x.now) × (f' ≡ f))
    → Wholes all r
folded steps g f s all r from ran step =
    fold_over steps (λ y. y.now) g Wholes f
    (λ bs a x b f' h called. let e = step a x b f' called in ((λ small few. e.0 ∙ one_more bs a x.now h small few), e.1))
    s all 0 r from (λ small few. sym (field_none [] 0)) ran

pub returns : goal.returns
returns c =
    let h = folded fronts _ _ c.iter.result c.iter.result.rest.now c.fold.result (slice_gives c.iter.result) c.fold.ensures.ran (λ a x b f' called. search rules) in
    (rw c.iter.ensures.rest at h) (λ i. (c.type_inv.bytes i).fits) c.requires
