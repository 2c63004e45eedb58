-- Laws of `num`, over any width.
use Rattle.std.proofs.Common.{◌≡◌, ℕ, zero, suc, ◌+◌, ◌-◌, ◌*◌, ◌/◌, ◌%◌, ◌^◌, ◌<◌, ◌≤◌, List, length, get_or, sym, refl, ap, ◌∙◌, add-zero, zero-add, length-append, take, drop, [], ◌∷◌, ◌++◌, mul_assoc, pow-suc, div-one, add-one, arith}
use native.Mathlib.Nat.{div-eq_of_lt}
use Rattle.std.proofs.lemmas.Nat.{mod_below, shr-shr, div-add-mod', shr_high, mod_low, mod-mul-add}
use Rattle.std.proofs.lemmas.List.FromFn.{get_or-map-range_with_len}
use Rattle.std.proofs.lemmas.List.{ext_get_or, get_or-take, get_or-drop, length-take-le, length-drop}
use Rattle.std.proofs.lemmas.Grind.{common_steps}
use Rattle.fields.specs.Bits.{bit, num, field_of, bytes_of}

-- one bit more
pub num_more : (f : ℕ → ℕ) (a w : ℕ) → num f a (w + 1) ≡ num f a w * 2 + f (a + w)
num_more f a w = rw add-one

pub field_none : (bs : List ℕ) (a : ℕ) → field_of bs a 0 ≡ 0
unfolding field_of
field_none bs a = refl

pub pow_more : (w : ℕ) → 2 ^ (w + 1) ≡ 2 * 2 ^ w
pow_more w = rw (add-one, pow-suc) (omega arith)

-- v + w bits are v bits and then w bits
pub num_split : (f : ℕ → ℕ) (a v w : ℕ) → num f a (v + w) ≡ num f a v * 2 ^ w + num f (a + v) w
num_split f a v zero = rw add-zero (omega arith)
num_split f a v (suc w) =
    let e : v + suc w ≡ suc (v + w) = omega arith in
    let g : a + (v + w) ≡ a + v + w = omega arith in
    rw (e, num_split f a v w, pow-suc, g, ← mul_assoc) (omega arith)

pub num_lt : (f : ℕ → ℕ) → ((i : ℕ) → f i < 2) → (a w : ℕ) → num f a w < 2 ^ w
num_lt f h a zero = omega arith
num_lt f h a (suc w) = rw pow-suc (omega (arith, num_lt f h a w, h (a + w)))

pub bit_lt : (bs : List ℕ) (i : ℕ) → bit bs i < 2
bit_lt bs i = mod_below _ 2 (omega arith)

pub field_lt : (bs : List ℕ) (a w : ℕ) → field_of bs a w < 2 ^ w
unfolding field_of
field_lt bs a w = num_lt (bit bs) (bit_lt bs) a w

-- the same bits write the same number
pub num_same : (f g : ℕ → ℕ) (a b w : ℕ) → ((k : ℕ) → k < w → f (a + k) ≡ g (b + k)) → num f a w ≡ num g b w
num_same f g a b zero h = refl
num_same f g a b (suc w) h = let e = num_same f g a b w (λ k l. h k (omega arith)) in rw e (omega (arith, h w (omega arith)))

-- the bits of v, most significant first, write v
num-top : (f : ℕ → ℕ) (a w v : ℕ) → v < 2 ^ w → ((k : ℕ) → k < w → f (a + k) ≡ v / 2 ^ (w - 1 - k) % 2) → (j : ℕ) → j ≤ w → num f a j ≡ v / 2 ^ (w - j)
num-top f a w v small h zero l = let e : w - 0 ≡ w = omega arith in rw e (sym (div-eq_of_lt small))
num-top f a w v small h (suc j) l =
    let e : w - j ≡ (w - suc j) + 1 = omega arith in
    let g : w - 1 - j ≡ w - suc j = omega arith in
    let i = num-top f a w v small h j (omega arith) in
    let b = h j (omega arith) in
    let s = shr-shr v (w - suc j) 1 in
    rw (i, b, g, e, ← s) (div-add-mod' (v / 2 ^ (w - suc j)) 2)

pub num-value : (f : ℕ → ℕ) (a w v : ℕ) → v < 2 ^ w → ((k : ℕ) → k < w → f (a + k) ≡ v / 2 ^ (w - 1 - k) % 2) → num f a w ≡ v
num-value f a w v small h =
    let e : w - w ≡ 0 = omega arith in
    num-top f a w v small h w (omega arith) ∙ rw e (div-one v)

-- bit k of the number that w bits write
pub num-bit : (f : ℕ → ℕ) → ((i : ℕ) → f i < 2) → (a w k : ℕ) → k < w → num f a w / 2 ^ (w - 1 - k) % 2 ≡ f (a + k)
num-bit f h a w k l =
    let r : ℕ = w - 1 - k in
    let e : w ≡ suc k + r = omega arith in
    let s : num f a w ≡ num f a (suc k) * 2 ^ r + num f (a + suc k) r = ap (num f a) e ∙ num_split f a (suc k) r in
    rw (s, shr_high (num f a (suc k)) r (num f (a + suc k) r) (num_lt f h (a + suc k) r)) (mod-mul-add (num f a k) 2 (f (a + k)) (h (a + k)))

-- a byte is the field of its 8 bits
pub num_byte : (bs : List ℕ) (i : ℕ) → get_or bs i 0 < 256 → num (bit bs) (8 * i) 8 ≡ get_or bs i 0
num_byte bs i small =
    num-value (bit bs) (8 * i) 8 (get_or bs i 0) small (λ k l. let d : (8 * i + k) / 8 ≡ i = omega arith in let m : (8 * i + k) % 8 ≡ k = omega arith in rw (d, m))

-- the bits of whole bytes
pub bit_bytes_of : (f : ℕ → ℕ) → ((i : ℕ) → f i < 2) → (n i : ℕ) → i < 8 * n → bit (bytes_of n f) i ≡ f i
bit_bytes_of f h n i l =
    let g : get_or (bytes_of n f) (i / 8) 0 ≡ num f (8 * (i / 8)) 8 = get_or-map-range_with_len (λ j. num f (8 * j) 8) 0 n (i / 8) (i / 8) 0 (omega arith) (omega arith) in
    let e : 8 * (i / 8) + i % 8 ≡ i = omega arith in
    rw g (num-bit f h (8 * (i / 8)) 8 (i % 8) (omega arith) ∙ ap f e)

-- byte lists with the same bits are the same
pub same_bytes : (xs ys : List ℕ) → length xs ≡ length ys → ((i : ℕ) → i < length xs → get_or xs i 0 < 256) → ((i : ℕ) → get_or ys i 0 < 256)
    → ((i : ℕ) → i < 8 * length xs → bit xs i ≡ bit ys i) → xs ≡ ys
same_bytes xs ys e p q h =
    ext_get_or 0 xs ys e (λ i l. sym (num_byte xs i (p i l)) ∙ num_same (bit xs) (bit ys) (8 * i) (8 * i) 8 (λ k m. h (8 * i + k) (omega arith)) ∙ num_byte ys i (q i))

-- w bits, with o bits before them and r bits after
pub num_inside : (f : ℕ → ℕ) → ((i : ℕ) → f i < 2) → (a o w r : ℕ) → num f a (o + w + r) / 2 ^ r % 2 ^ w ≡ num f (a + o) w
num_inside f h a o w r =
    rw (num_split f a (o + w) r, shr_high (num f a (o + w)) r (num f (a + (o + w)) r) (num_lt f h (a + (o + w)) r), num_split f a o w)
    (mod_low (num f a o) w (num f (a + o) w) (num_lt f h (a + o) w))

-- one byte more
pub field_byte_more : (bs : List ℕ) (s i : ℕ) → s ≤ i → get_or bs i 0 < 256 → field_of bs (8 * s) (8 * (i + 1 - s)) ≡ field_of bs (8 * s) (8 * (i - s)) * 256 + get_or bs i 0
unfolding field_of
field_byte_more bs s i l small =
    let e : 8 * (i + 1 - s) ≡ 8 * (i - s) + 8 = omega arith in
    let g : 8 * s + 8 * (i - s) ≡ 8 * i = omega arith in
    rw (e, num_split (bit bs) (8 * s) (8 * (i - s)) 8, g, num_byte bs i small)

-- one byte put after the others
pub field_byte_added : (bs : List ℕ) (b : ℕ) → b < 256 → field_of (bs ++ b ∷ []) 0 (8 * length (bs ++ b ∷ [])) ≡ field_of bs 0 (8 * length bs) * 256 + b
unfolding field_of
field_byte_added bs b small =
    let n : ℕ = length bs in
    let e : 8 * length (bs ++ b ∷ []) ≡ 8 * n + 8 = omega (arith, length-append bs (b ∷ [])) in
    let z : 0 + 8 * n ≡ 8 * n = zero-add (8 * n) in
    let last : get_or (bs ++ b ∷ []) n 0 ≡ b = grind (arith, common_steps) in
    let front : num (bit (bs ++ b ∷ [])) 0 (8 * n) ≡ num (bit bs) 0 (8 * n) =
    num_same (bit (bs ++ b ∷ [])) (bit bs) 0 0 (8 * n)
    (λ k l. let g : get_or (bs ++ b ∷ []) (k / 8) 0 ≡ get_or bs (k / 8) 0 = let m : k / 8 < n = omega arith in grind (arith, common_steps) in rw (zero-add, g)) in
    rw (e, num_split (bit (bs ++ b ∷ [])) 0 (8 * n) 8, z, front, num_byte (bs ++ b ∷ []) n (rw last small), last)

-- n bytes cut out write the field that they are there
pub field_slice : (bs : List ℕ) (s n : ℕ) → s + n ≤ length bs → field_of (take n (drop s bs)) 0 (8 * length (take n (drop s bs))) ≡ field_of bs (8 * s) (8 * n)
unfolding field_of
field_slice bs s n room =
    let long : length (take n (drop s bs)) ≡ n = length-take-le n (drop s bs) (omega (arith, length-drop s bs)) in
    ap (λ k. num (bit (take n (drop s bs))) 0 (8 * k)) long
    ∙ num_same (bit (take n (drop s bs))) (bit bs) 0 (8 * s) (8 * n)
    (λ k l.
    let d : (8 * s + k) / 8 ≡ s + k / 8 = omega arith in
    let m : (8 * s + k) % 8 ≡ k % 8 = omega arith in
    let t = get_or-take n (drop s bs) (k / 8) 0 (omega arith) in
    let g = get_or-drop s bs (k / 8) 0 in
    rw (zero-add, d, m, t, g))

pub field_inside : (bs : List ℕ) (a b o w r n : ℕ) → a + o ≡ b → n ≡ o + w + r → field_of bs a n / 2 ^ r % 2 ^ w ≡ field_of bs b w
unfolding field_of
field_inside bs a b o w r n e g = rw (← e, g) (num_inside (bit bs) (bit_lt bs) a o w r)
