-- Facts of a reading that goes up to a last position.
use Rattle.std.specs.Prelude.{◌≡◌, ℕ, ◌<◌, ◌≤◌, Bool, true, false, cond, ◌⊎◌, ℤ, Ok, Err, nat_lt, refl}
use Rattle.std.proofs.Common.{sym, ap, inl, inr, ⊎_elim, ltb-false, lt-ltb, le-ltb}
use Rattle.terms.specs.declared.fault.Fault.{Fault}
use Rattle.terms.specs.Faults.{beyond}
use Rattle.terms.specs.Meaning.{Reading}
use Rattle.gauges.specs.Layering.{up_to}

pub within_is : (last name p : ℕ) (r : Reading) → p ≤ last → up_to last name p r ≡ r
within_is last name p r w = ap (λ b. cond b (Err (beyond p name)) r) (le-ltb last p w)

pub past_is : (last name p : ℕ) (r : Reading) → last < p → up_to last name p r ≡ Err (beyond p name)
past_is last name p r w = ap (λ b. cond b (Err (beyond p name)) r) (lt-ltb last p w)

either : (b : Bool) (f : Fault) (r s : Reading) → cond b (Err f) r ≡ s → (s ≡ Err f) ⊎ ((b ≡ false) × (r ≡ s))
either true f r s e = inl (sym e)
either false f r s e = inr (refl, e)

-- a reading is the fault beyond the last position, or within it the reading below
pub up_to_cases : (last name p : ℕ) (r s : Reading) → up_to last name p r ≡ s → (s ≡ Err (beyond p name)) ⊎ ((p ≤ last) × (r ≡ s))
up_to_cases last name p r s e = ⊎_elim inl (λ c. inr (ltb-false last p c.0, c.1)) (either (nat_lt last p) (beyond p name) r s e)

-- a height comes from within
pub up_to_ok : (last name p : ℕ) (r : Reading) (h : ℤ) → up_to last name p r ≡ Ok h → r ≡ Ok h
up_to_ok last name p r h e =
    ⊎_elim
    (λ c. cc)
    (λ c. c.1)
    (up_to_cases last name p r (Ok h) e)

-- a fault tells the position asked, if the fault of the reading below does
pub up_to_asked : (last name p : ℕ) (r : Reading) (f : Fault) → ((d : Fault) → r ≡ Err d → d.position ≡ p) → up_to last name p r ≡ Err f → f.position ≡ p
up_to_asked last name p r f below e =
    ⊎_elim
    (λ c. let k : f ≡ beyond p name = cc in ap (λ (x : Fault). x.position) k)
    (λ c. below f c.1)
    (up_to_cases last name p r (Err f) e)
