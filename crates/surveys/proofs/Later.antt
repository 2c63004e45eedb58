-- Later moments, the ceiling, the floor, and what settled means.
use Rattle.std.proofs.Common.{◌≡◌, ℕ, suc, ◌*◌, ◌≤◌, false, ltb, ◌≢◌, List, [], ◌∷◌, length, ℤ, ◌≤ℤ◌, Some, Ok, sym, refl, ap, subst, ⊎_elim, arith}
use borrow.Author.Differences.{ints}
use Rattle.std.specs.List.{ContainsAt as Has, AllByRecursion}
use Rattle.std.proofs.ByRecursion.{All-weaker, all-has, all_has_itself}
use Rattle.std.proofs.lemmas.Bool.{cond_both, eqb-false, cases_order}
use Rattle.terms.specs.Meaning.{Meaning, Lawful}
use Rattle.caps.specs.declared.Touch.{Touch}
use Rattle.caps.specs.declared.Line.{Line}
use Rattle.caps.specs.declared.Outlook.{Outlook}
use Rattle.caps.specs.Touches.{Untouched, insert}
use Rattle.caps.specs.Stretches.{whole}
use Rattle.caps.specs.Caps.{least, reach, cap, floor}
use Rattle.caps.specs.Outlooks.{seen, outlook}
use Rattle.caps.proofs.Extremes.{below_least, first_has}
use Rattle.caps.proofs.Room.{distance_same}
use Rattle.caps.proofs.Peaks.{top_above}
use Rattle.caps.proofs.Possible.{touched_or}
use Rattle.caps.proofs.Inserts.{more_touches, every_touch_stays}
use Rattle.caps.proofs.Proved.{laws_of_caps}
use Rattle.surveys.specs.declared.calls.Call.{Call}
use Rattle.surveys.specs.States.{State, line_of, opened, add, with_tolerance, full}
use Rattle.surveys.specs.Moments.{moment}
use Rattle.surveys.specs.Laws.{NoWorseLater, FloorStands, TellsSettled}
use Rattle.surveys.proofs.Sound.{Sound, SurveyOf, sound_none, sound_more, sound_lawful}
use Rattle.surveys.proofs.Steps.{from_start, from_earlier}

pub length-insert : (u : Touch) (ts : List Touch) → length (insert u ts) ≡ suc (length ts)
length-insert u [] = refl
length-insert u (t ∷ ts) =
    cond_both (ltb u.position t.position) (u ∷ (t ∷ ts)) (t ∷ insert u ts) (λ xs. length xs ≡ suc (length (t ∷ ts))) (λ e. refl) (λ e. ap suc (length-insert u ts))

-- Where there are floor and ceiling, something is touched, and they are its.
by_outlook : (line : Line) (Q : List Touch → Outlook → Type 0) → ((a : Touch) (ts : List Touch) → Q (a ∷ ts) (seen line a ts)) → (ts : List Touch) (o : Outlook) → outlook line ts ≡ Some o → Q ts o
by_outlook line Q q [] o e = let z : ◌≡◌ {A = ℕ} 0 1 = cc in absurd (omega arith)
by_outlook line Q q (a ∷ ts) o e = let f : seen line a ts ≡ o = cc in subst (Q (a ∷ ts)) f (q a ts)

module _ (m : Meaning) (law : Lawful m) where
  abbrev L : Line
  L = line_of m

  -- A survey of the gauge with that limit, which the touches keep, and with the touches of an earlier moment among its own.
  record Kept (limit : ℕ) (earlier : List Touch) (s : State) : Type 0 where
    of : SurveyOf m s
    same : s.limit ≡ limit
    few : length s.touches ≤ limit
    remain : AllByRecursion (Has s.touches) earlier

  module _ (n : ℕ) (earlier : List Touch) where
    abbrev P : State → Type 0
    P = Kept n earlier

    of_kept : (s : State) → P s → SurveyOf m s
    of_kept s h = h.of

    kept_more : (s : State) (p : ℕ) (h : ℤ) → p ≤ m.last → Untouched s.touches p → full s ≡ false → m.reading p ≡ Ok h → P s → P (add (record { position = p; height = h }) s)
    kept_more s p h l free f e k =
        let u : Touch = record { position = p; height = h } in
        let ne : length s.touches ≢ s.limit = eqb-false (length s.touches) s.limit f in
        record {
          of = record { line = k.of.line; sound = sound_more m s.touches p h k.of.sound l free e };
          same = k.same;
          few = omega (arith, length-insert u s.touches, k.few, k.same, ne);
          remain = All-weaker (Has s.touches) (Has (insert u s.touches)) (λ t i. all-has (Has (insert u s.touches)) s.touches t (every_touch_stays u s.touches).1 i) earlier k.remain;
        }

    kept_reset : (s : State) (t : ℕ) → P s → P (with_tolerance t s)
    kept_reset s t k = record { of = record { line = k.of.line; sound = k.of.sound }; same = k.same; few = k.few; remain = k.remain }

  module _ (tolerance limit : ℕ) (calls : List Call) where
    abbrev survey : ℕ → State
    survey k = moment m.reading (opened m tolerance limit) calls k

    kept_at : (k : ℕ) → Kept limit [] (survey k)
    kept_at k =
        from_start m (Kept limit []) (of_kept limit []) (kept_more limit []) (kept_reset limit []) (opened m tolerance limit) calls k
        (record { of = record { line = refl; sound = sound_none m }; same = refl; few = omega arith; remain = tt })

    pub survey_of_at : (k : ℕ) → SurveyOf m (survey k)
    survey_of_at k = (kept_at k).of

    pub limit_at : (k : ℕ) → (survey k).limit ≡ limit
    limit_at k = (kept_at k).same

    pub few_at : (k : ℕ) → length (survey k).touches ≤ limit
    few_at k = (kept_at k).few

    remain_at : (j k : ℕ) → j ≤ k → AllByRecursion (Has (survey k).touches) (survey j).touches
    remain_at j k le =
        let ts : List Touch = (survey j).touches in
        let now = kept_at j in
        (from_earlier m (Kept limit ts) (of_kept limit ts) (kept_more limit ts) (kept_reset limit ts) (opened m tolerance limit) calls j k le
        (record { of = now.of; same = now.same; few = now.few; remain = all_has_itself ts })
        ).remain

    pub later_never_worse : (j k : ℕ) → j ≤ k → (o : Outlook) → outlook L (survey j).touches ≡ Some o → NoWorseLater L (survey j).touches (survey k).touches o
    later_never_worse j k le o e = no_worse (survey j).touches (survey k).touches (survey_of_at j).sound (survey_of_at k).sound (remain_at j k le) o e
      where
        no_worse : (ts us : List Touch) → Sound m ts → Sound m us → AllByRecursion (Has us) ts → (o : Outlook) → outlook (line_of m) ts ≡ Some o → NoWorseLater (line_of m) ts us o
        no_worse [] us st su h o e = let z : ◌≡◌ {A = ℕ} 0 1 = cc in absurd (omega arith)
        no_worse (a ∷ ts) [] st su h o e = absurd (omega (arith, h.0.1))
        no_worse (a ∷ ts) (c ∷ us) st su h o e =
            let f : seen (line_of m) a ts ≡ o = cc in
            let r = more_touches L a ts c us (sound_lawful m law (a ∷ ts) st) (sound_lawful m law (c ∷ us) su) h in
            subst (NoWorseLater L (a ∷ ts) (c ∷ us)) f
            (record { bounds = record { told = seen L c us; is_told = refl; caps = r.0; ceiling = r.1; floor = r.2 }; heights_remain = h })

    -- A readable height is at or under the cap.
    under_cap : (a : Touch) (ts : List Touch) → Sound m (a ∷ ts) → (p : ℕ) (h : ℤ) → m.reading p ≡ Ok h → h ≤ℤ cap L (a ∷ ts) p
    under_cap a ts sound p h e =
        let Q : Touch → Type 0 = λ t. m.reading t.position ≡ Ok t.height in
        let f : Touch → ℤ = reach L p in
        ⊎_elim
        (λ t. let at : m.reading t.0.position ≡ m.reading p = ap m.reading t.2 in
        let r = t.1 in
        let q : t.0.height ≡ h = cc in omega (arith, ints, t.3))
        (λ u. let l = below_least f h a ts
        (All-weaker Q (λ t. h ≤ℤ f t) (λ t r. omega (arith, ints, law.near p t.position h t.height e r, ap (λ d. m.slope * d) (distance_same p t.position))) (a ∷ ts) sound.read) in
        omega (arith, ints, u.1))
        (touched_or Q (a ∷ ts) p (least f a ts) sound.read)

    readable_within : (p : ℕ) (h : ℤ) → m.reading p ≡ Ok h → p ≤ m.last
    readable_within p h e = ⊎_elim (λ q. omega arith) (⊎_elim (λ l. omega arith) (λ l. let f = law.past p l in let g = f.1 in let z : ◌≡◌ {A = ℕ} 0 1 = cc in absurd (omega arith))) (cases_order p m.last)

    pub heights_under_ceiling : (k : ℕ) (o : Outlook) → outlook L (survey k).touches ≡ Some o → (p : ℕ) (h : ℤ) → m.reading p ≡ Ok h → h ≤ℤ o.ceiling
    heights_under_ceiling k o e p h r =
        by_outlook L (λ ts o. Sound m ts → h ≤ℤ o.ceiling)
        (λ a ts sound. let c = under_cap a ts sound p h r in let t = top_above (cap L (a ∷ ts)) (whole L) p (omega arith) (readable_within p h r) in omega (arith, ints))
        (survey k).touches o e (survey_of_at k).sound

    floor_stands : (a : Touch) (ts : List Touch) → Sound m (a ∷ ts) → FloorStands m (a ∷ ts) (floor a ts)
    floor_stands a ts sound = record {
      is_floor = laws_of_caps.floor_is_highest_and_lowest L a ts sound.on_line;
      read = first_has (λ t. t.height) (λ t. m.reading t.position ≡ Ok t.height) a ts sound.read;
    }

    pub floor_was_touched : (k : ℕ) (o : Outlook) → outlook L (survey k).touches ≡ Some o → FloorStands m (survey k).touches o.floor
    floor_was_touched k o e = by_outlook L (λ ts o. Sound m ts → FloorStands m ts o.floor) floor_stands (survey k).touches o e (survey_of_at k).sound

    tells : (t n : ℕ) (ts : List Touch) → Sound m ts → ts ≢ [] → TellsSettled L (record { line = line_of m; tolerance = t; limit = n; touches = ts })
    tells t n [] sound some = absurd (some refl)
    tells t n (a ∷ ts) sound some = record {
      told = record { floor = floor a ts; ceiling = (seen L a ts).ceiling; touches = length (a ∷ ts); settled = _ };
      answer = refl;
      exactly = laws_of_caps.settled_exactly L a ts t (sound_lawful m law (a ∷ ts) sound);
    }

    pub settled_exactly : (k : ℕ) → (survey k).touches ≢ [] → TellsSettled L (survey k)
    settled_exactly k some =
        let s : State = survey k in
        subst (λ (l : Line). TellsSettled L (record { line = l; tolerance = s.tolerance; limit = s.limit; touches = s.touches })) (sym (survey_of_at k).line)
        (tells s.tolerance s.limit s.touches (survey_of_at k).sound some)
