use Rattle.std.proofs.Common.{◌≡◌, ℕ, ◌+◌, ◌*◌, ◌<◌, true, false, List, length, ℤ, is_some, None, sym, refl, ap, ◌∙◌, arith, w32, to_z, of_z, rules, below_more}
use Rattle.std.proofs.lemmas.Int.{to_z-of_z}
use Rattle.std.proofs.lemmas.Bool.{both_ways}
use Rattle.terms.specs.Meaning.{Height}
use Rattle.heights.specs.Heights.{height_at, marked, partner, first_outside}
use Rattle.heights.specs.Extremes.{stray}
use Rattle.heights.proofs.Pairs.{ranged_at, near, far, alone, alone_marked, break_none, break_some, bounds_marked, bounds_more, bounds_at}
use Rattle.heights.proofs.Told.{breaks_are_told}
use Rattle.heights.proofs.law.Sheet.find_break.Goals as goal
use Rattle.heights.proofs.law.Sheet.find_break.Goals.{then-not-is_marked+else-is_stray, else-not-is_marked}

-- a height that was read, of which the test of marks says false, is in range
within : (xs : List ℤ) (p : ℕ) (h z : ℤ) → first_outside xs ≡ None → p < length xs → z ≡ h → h ≡ height_at xs p → false ≡ marked z → Height z
within xs p h z o l e f m =
    let y : z ≡ height_at xs p = e ∙ f in
    rw y (ranged_at xs o p l (ap marked (sym y) ∙ sym m))

pub invariant_of-is_stray : goal.invariant_of-is_stray
invariant_of-is_stray g c =
    let xs = g.H.Heights.list c.args.self.now.heights.now in
    record {
      ranged = within xs c.loop-later.later c.height-height.result _ c.requires (omega arith) (to_z-of_z w32 _ (search rules)) c.height-height.ensures c.if-not-is_marked.ensures;
      short = omega (arith, c.rise-rise.ensures.most);
    }

pub returns-in_err-earlier : goal.returns-in_err-earlier
returns-in_err-earlier g c =
    let xs = g.H.Heights.list c.args.self.now.heights.now in
    let p : ℕ = c.loop-later.later in
    let slope : ℕ = c.args.self.now.bound.slope in
    let slack : ℕ = c.args.self.now.bound.slack in
    let top = c.loop-later.so_far.greatest in
    let low = c.loop-later.so_far.least in
    let y : to_z w32 (of_z w32 c.height-height.result) ≡ height_at xs p = to_z-of_z w32 _ (search rules) ∙ c.height-height.ensures in
    let m : marked (height_at xs p) ≡ false = ap marked (sym y) ∙ sym c.if-not-is_marked.ensures in
    let r : c.rise-rise.result ≡ slope * p = c.rise-rise.ensures.value in
    let s : stray top low (height_at xs p) (slope * p) slack ≡ true = rw (sym y, sym r) (sym c.if-is_stray.ensures) in
    let f = far slope slack xs p top low c.loop-later.invariant.1 m (ranged_at xs c.requires p (omega arith) m) s in
    absurd (both_ways (is_some (partner slope slack xs p)) (ap is_some (sym c.find_partner.ensures ∙ c.in_err-earlier.was)) f)

pub returns-then-is_stray : goal.returns-then-is_stray
returns-then-is_stray g c =
    let xs = g.H.Heights.list c.args.self.now.heights.now in
    record {
      is = sym (break_some c.args.self.now.bound.slope c.args.self.now.bound.slack xs c.loop-later.later c.in_ok-earlier.earlier (omega arith) c.loop-later.invariant.0 (sym c.in_ok-earlier.ensures));
      told = breaks_are_told;
    }

pub loop-later-preserved : goal.loop-later-preserved
loop-later-preserved g c =
    let xs = g.H.Heights.list c.args.self.now.heights.now in
    let p : ℕ = c.loop-later.later in
    let slope : ℕ = c.args.self.now.bound.slope in
    let slack : ℕ = c.args.self.now.bound.slack in
    let top = c.loop-later.so_far.greatest in
    let low = c.loop-later.so_far.least in
    let y : to_z w32 (of_z w32 c.height-height.result) ≡ height_at xs p = to_z-of_z w32 _ (search rules) ∙ c.height-height.ensures in
    elim c.if-not-is_marked.branch [
      | then-not-is_marked+else-is_stray w ↦
          let m : marked (height_at xs p) ≡ false = ap marked (sym y) ∙ sym w.if-not-is_marked.ensures in
          let r : w.rise-rise.result ≡ slope * p = w.rise-rise.ensures.value in
          let s : stray top low (height_at xs p) (slope * p) slack ≡ false = rw (sym y, sym r) (sym w.if-is_stray.ensures) in (
            below_more _ _ c.loop-later.invariant.0 (alone slope slack xs p (near slope slack xs p top low c.loop-later.invariant.1 s)),
            bounds_at slope xs (p + 1) _ _ _ _
                (ap (λ e. e.greatest) w.so_far-is ∙ w.with-so_far.ensures.greatest ∙ rw (y, r) refl)
                (ap (λ e. e.least) w.so_far-is ∙ w.with-so_far.ensures.least ∙ rw (y, r) refl)
                (bounds_more slope xs p top low c.loop-later.invariant.1 m),
          )
      | else-not-is_marked w ↦
          let m : marked (height_at xs p) ≡ true = ap marked (sym y) ∙ sym w.if-not-is_marked.ensures in (
            below_more _ _ c.loop-later.invariant.0 (alone_marked slope slack xs p m),
            bounds_at slope xs (p + 1) _ _ _ _ (ap (λ e. e.greatest) w.so_far-is) (ap (λ e. e.least) w.so_far-is)
                (bounds_marked slope xs p top low c.loop-later.invariant.1 m),
          )
    ]

pub returns : goal.returns
returns g c =
    let xs = g.H.Heights.list c.args.self.now.heights.now in
    record { is = sym (break_none c.args.self.now.bound.slope c.args.self.now.bound.slack xs (λ k l. c.loop-later.invariant.0 k (omega arith))); told = breaks_are_told }
