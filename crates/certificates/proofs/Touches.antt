-- The touches of a certificate: their fields fit, and read as they are.
use Rattle.std.proofs.Common.{◌≡◌, ℕ, zero, suc, ◌+◌, ◌*◌, ◌/◌, ◌<◌, ◌≤◌, List, [], ◌∷◌, ◌++◌, length, get_or, drop, pos, IfSome, Some, None, Option, sym, refl, ap, ◌∙◌, subst, arith}
use Rattle.std.specs.List.{AllByRecursion}
use Rattle.fields.specs.Bits.{Field, bits_of, width_of, num, Fit, Reads, complement_of, packed}
use Rattle.fields.proofs.Signs.{complement_lt}
use Rattle.fields.proofs.Packs.{bits_of_lt}
use Rattle.fields.proofs.Writes.{Wrote, wrote_all}
use Rattle.caps.specs.declared.Touch.{Touch}
use Rattle.caps.specs.declared.Line.{Line}
use Rattle.caps.specs.declared.Outlook.{Outlook}
use Rattle.caps.specs.Touches.{Sound}
use Rattle.caps.specs.Outlooks.{outlook, seen}
use Rattle.caps.proofs.Extremes.{first_has}
use Rattle.certificates.specs.Layout.{touch_fields, certificate_fields, certificate_with, certificate_size}
use Rattle.certificates.specs.Steps.{SaysTouch, HeadWritten, TouchesWritten}
use Rattle.certificates.proofs.Heads.{HeadFits, own}

abbrev nowhere : Touch
nowhere = record { position = 0; height = pos 0 }

pub touches_fit : (ts : List Touch) → AllByRecursion (λ t. t.position ≤ 4000) ts → Fit (touch_fields ts)
touches_fit [] a = tt
touches_fit (t ∷ ts) a = (omega (arith, a.0), (complement_lt 16 t.height, touches_fit ts a.1))

touches_width : (ts : List Touch) → width_of (touch_fields ts) ≡ 28 * length ts
touches_width [] = refl
touches_width (t ∷ ts) = omega (arith, touches_width ts)

-- each touch of fields that read
read_at : (b : ℕ → ℕ) (a : ℕ) (ts : List Touch) → Reads b a (touch_fields ts) → (k : ℕ) → k < length ts →
    (num b (a + 28 * k) 12 ≡ (get_or ts k nowhere).position) × (num b (a + 28 * k + 12) 16 ≡ complement_of 16 (get_or ts k nowhere).height)
read_at b a [] r k l = absurd (omega arith)
read_at b a (t ∷ ts) r zero l =
    let e : a + 28 * 0 ≡ a = omega arith in
    (ap (λ n. num b n 12) e ∙ r.0, ap (λ n. num b (n + 12) 16) e ∙ r.1.0)
read_at b a (t ∷ ts) r (suc k) l =
    let e : a + 28 * suc k ≡ a + 12 + 16 + 28 * k = omega arith in
    let s = read_at b (a + 12 + 16) ts r.1.1 k (omega arith) in
    (ap (λ n. num b n 12) e ∙ s.0, ap (λ n. num b (n + 12) 16) e ∙ s.1)

module _ (line : Line) (tolerance : ℕ) (ts : List Touch) (o : Outlook) (fits : HeadFits line tolerance (length ts) o) (low : AllByRecursion (λ t. t.position ≤ 4000) ts) where
  abbrev fs : List Field
  fs = certificate_fields line tolerance ts o

  says : (k : ℕ) → k < length ts → SaysTouch (bits_of fs) k (get_or ts k nowhere)
  says k l =
      let r = read_at (bits_of fs) 98 ts (own line tolerance ts o fits (touches_fit ts low)).1.1.1.1.1.1.1 k l in
      record { position = r.0; height = r.1 }

  pub all_written : (a b c : List ℕ) → ((i : ℕ) → get_or c i 0 < 256) → certificate_size (length ts) ≤ length c → HeadWritten line tolerance (length ts) o a b → TouchesWritten (length ts) ts b c
      → c ≡ certificate_with line tolerance ts o ++ drop (certificate_size (length ts)) a
  unfolding certificate_with
  all_written a b c small room head touches =
      let w = touches (bits_of fs) (bits_of_lt fs) says a (head ts refl (touches_fit ts low)) in
      let e : 98 + 28 * length ts ≡ width_of fs = omega (arith, touches_width ts) in
      let n : (width_of fs + 7) / 8 ≡ certificate_size (length ts) = ap (λ k. (k + 7) / 8) (sym e) in
      wrote_all fs a c small (subst (λ k. k ≤ length c) (sym n) room) (subst (λ k. Wrote (bits_of fs) k a c) e w) ∙ ap (λ k. packed fs ++ drop k a) n

-- the floor lies on the line
pub floor_within : (line : Line) (ts : List Touch) → Sound line ts → (o : Outlook) → outlook line ts ≡ Some o → o.floor.position ≤ line.last
floor_within line [] s o e = let z : ◌≡◌ {A = ℕ} 0 1 = cc in absurd (omega arith)
floor_within line (a ∷ ts) s o e =
    let i : seen line a ts ≡ o = cc in
    subst (λ (x : Outlook). x.floor.position ≤ line.last) i (first_has (λ t. t.height) (λ t. t.position ≤ line.last) a ts s.on_line.within)

pub told_within : (line : Line) (ts : List Touch) → Sound line ts → (r : Option Outlook) → r ≡ outlook line ts → IfSome r (λ o. o.floor.position ≤ line.last)
told_within line ts s None e = tt
told_within line ts s (Some o) e = floor_within line ts s o (sym e)

pub all_low : (last : ℕ) (ts : List Touch) → last ≤ 4000 → AllByRecursion (λ t. t.position ≤ last) ts → AllByRecursion (λ t. t.position ≤ 4000) ts
all_low last [] l a = tt
all_low last (t ∷ ts) l a = (omega (arith, a.0), all_low last ts l a.1)
