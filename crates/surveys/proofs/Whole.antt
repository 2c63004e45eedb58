-- The law holds of every list of calls, over every lawful gauge, from every opening.
use Rattle.std.proofs.Common.{◌≡◌, ℕ, List, length, sym, refl, ap, subst, arith}
use Rattle.terms.specs.Meaning.{Meaning, Lawful}
use Rattle.surveys.specs.declared.calls.Call.{Call}
use Rattle.surveys.specs.declared.calls.Call.TheVariants.{Run}
use Rattle.surveys.specs.declared.answers.Course.{Course}
use Rattle.surveys.specs.declared.answers.Answer.{Answer}
use Rattle.surveys.specs.States.{State, opened}
use Rattle.surveys.specs.Calls.{run}
use Rattle.surveys.specs.Moments.{moment, answers_to}
use Rattle.surveys.specs.Laws.{Work, OneSearch, RunsEnd, RunCountsTouches, Law}
use Rattle.surveys.proofs.Moments.{moment_next, answer_is, answers_long}
use Rattle.surveys.proofs.Later.{limit_at, few_at, later_never_worse, heights_under_ceiling, floor_was_touched, settled_exactly}
use Rattle.surveys.proofs.Search.{Searching, few_touches, run_stops, run_counts}

module _ (m : Meaning) (law : Lawful m) (tolerance limit : ℕ) (calls : List Call) where
  abbrev start : State
  start = opened m tolerance limit

  abbrev survey : ℕ → State
  survey k = moment m.reading start calls k

  -- the calls with the answers that the definitions give
  abbrev defined : Work
  defined = record { gauge = m; tolerance = tolerance; limit = limit; calls = calls; answers = answers_to m.reading start calls }

  searching : OneSearch defined → Searching m.reading start calls (answers_to m.reading start calls)
  searching one = record { no_at = one.no_at; one_tolerance = one.one_tolerance }

  runs_end : RunsEnd defined
  runs_end one k b made n l = record {
    course = (run m.reading (survey k) b).answer;
    answer = answer_is m.reading start calls k (Run b) made;
    stop = run_stops m law tolerance limit calls (searching one) k b n (omega (arith, limit_at m law tolerance limit calls k));
  }

  counts : RunCountsTouches defined
  counts k b course made answered =
      let is = answer_is m.reading start calls k (Run b) made in
      let same : (run m.reading (survey k) b).answer ≡ course = cc in
      let grows = run_counts m.reading (survey k) 0 b in
      let next = ap (λ (s : State). length s.touches) (moment_next m.reading start calls k (Run b) made) in
      let made-is = ap (λ (c : Course). c.made) same in
      omega arith

  law_of_defined : Law defined (survey (length calls))
  law_of_defined = record {
    each_as_defined = record {
      answer = answer_is m.reading start calls;
      change = moment_next m.reading start calls;
      one_answer_each = answers_long m.reading start calls;
      left_at_the_end = refl;
    };
    later_never_worse = later_never_worse m law tolerance limit calls;
    heights_under_ceiling = heights_under_ceiling m law tolerance limit calls;
    floor_was_touched = floor_was_touched m law tolerance limit calls;
    settled_exactly = settled_exactly m law tolerance limit calls;
    few_touches = λ one. few_touches m law tolerance limit calls (searching one);
    runs_end = runs_end;
    within_limit = few_at m law tolerance limit calls;
    run_counts_touches = counts;
  }

  pub law_holds : (told : List Answer) (left : State) → told ≡ answers_to m.reading start calls → left ≡ survey (length calls) →
      Law (record { gauge = m; tolerance = tolerance; limit = limit; calls = calls; answers = told }) left
  law_holds told left e f =
      subst (λ (given : List Answer). Law (record { gauge = m; tolerance = tolerance; limit = limit; calls = calls; answers = given }) left) (sym e)
      (subst (Law defined) (sym f) law_of_defined)
