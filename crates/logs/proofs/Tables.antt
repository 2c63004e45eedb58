-- A log's touches are sound, and stay so with one more.
use Rattle.std.proofs.Common.{◌≡◌, ℕ, ◌+◌, ◌<◌, Bool, true, false, cond, ◌||◌, ◌==◌, ◌≢◌, List, [], ◌∷◌, length, take, drop, sym, refl, ap, ◌∙◌, subst, arith}
use Rattle.std.proofs.lemmas.List.{length-take-le, take_at}
use Rattle.std.proofs.lemmas.Bool.{eqb-false}
use Rattle.std.specs.List.{list_any}
use Rattle.terms.specs.Meaning.{Height}
use Rattle.caps.specs.declared.Touch.{Touch}
use Rattle.caps.specs.declared.Line.{Line}
use Rattle.caps.specs.Touches.{Sound, insert, is_touched}
use Rattle.caps.proofs.Highest.{false_untouched}
use Rattle.caps.proofs.Inserts.{insert_in, insert_on_line}
use Rattle.surveys.specs.States.{full}
use Rattle.surveys.proofs.Later.{length-insert}
use Rattle.logs.specs.declared.log.Log.{Log}
use Rattle.logs.specs.declared.log.Notes.{Notes}
use Rattle.logs.specs.Logs.{state_of, PutIn, Free}

pub count_is : (l : Log) → length (state_of l).touches ≡ l.notes.count
count_is l = let w = l.within in let r = l.room in let n = l.long in length-take-le l.notes.count l.notes.touches (omega arith)

pub count_below : (l : Log) → full (state_of l) ≡ false → l.notes.count < l.notes.limit
count_below l room =
    let ne : length (state_of l).touches ≢ l.notes.limit = eqb-false (length (state_of l).touches) l.notes.limit room in
    let w = l.within in
    omega (arith, count_is l)

-- The notes with one more touch.
module _ (l : Log) (u : Touch) (n : Notes) (put : PutIn u l.notes n) where
  pub touches_then : take n.count n.touches ≡ insert u (state_of l).touches
  touches_then =
      ap (λ k. take k n.touches) put.count ∙ ap (take (l.notes.count + 1)) put.table
      ∙ take_at (insert u (state_of l).touches) (drop (l.notes.count + 1) l.notes.touches) (l.notes.count + 1) (omega (arith, length-insert u (state_of l).touches, count_is l))

  module _ (room : full (state_of l) ≡ false) (free : Free (state_of l) u.position) (height : Height u.height) where
    abbrev ts : List Touch
    ts = (state_of l).touches

    sound_with : Sound l.notes.line (insert u ts)
    sound_with = record {
      limits = l.sound.limits;
      on_line = insert_on_line l.notes.line u ts l.sound.on_line free.within (false_untouched ts u.position free.untouched);
      heights = insert_in (λ t. Height t.height) u ts height l.sound.heights;
      few = let r = l.room in omega (arith, length-insert u ts, count_is l, count_below l room);
    }

    pub sound_then : Sound n.line (take n.count n.touches)
    sound_then = subst (λ (line : Line). Sound line (take n.count n.touches)) (sym put.line) (subst (Sound l.notes.line) (sym touches_then) sound_with)

-- Whether p is touched is whether some touch lies there.
or_is : (a b : Bool) → cond a true b ≡ (a || b)
or_is true b = refl
or_is false b = refl

pub touched_any : (p : ℕ) (ts : List Touch) → is_touched ts p ≡ list_any (λ t. t.position == p) ts
touched_any p [] = refl
touched_any p (t ∷ ts) = or_is (t.position == p) (is_touched ts p) ∙ ap (λ b. (t.position == p) || b) (touched_any p ts)
