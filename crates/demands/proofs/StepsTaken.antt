-- By a good figure the least number of points is that of the steps in the file, taken as the rules say.
use Prim.Native.Nat.{ℕ, zero, suc, ◌*◌, ◌≤◌, ◌<◌}
use mathlib.Core.Path.{◌≡◌, refl, sym, ◌∙◌}
use mathlib.Core.Bool.{Bool, true, false, true≢false, false≢true, cond}
use mathlib.Core.List.{List}
use mathlib.Core.Logic.{◌⊎◌, inl, inr, ⊎_elim}
use native.Mathlib.Nat.{eq-or-lt_of_le, le_of_suc-le-suc}
use native.Mathlib.Omega.{arith}
use borrow.Author.Tests.{leb-true, le-leb, ltb-true, ltb-false, ne_eqb}
use lib.Dec.{ltb}
use lib.ListN.{get_or, replicate}
use lib.Seq.{get_or-set_other}
use Rattle.fields.specs.Numbers.{byte_at}
use Rattle.fields.specs.Trouble.{Clear}
use Rattle.arrays.specs.Arrays.{padded}
use Rattle.arrays.proofs.Arrays.{pad_at}
use Rattle.readings.specs.Ranges.{greatest_step_count}
use Rattle.readings.proofs.Ranges.{both_right}
use Rattle.records.specs.declared.Site.{Site}
use Rattle.diameters.specs.Diameters.{diameter}
use Rattle.steps.specs.declared.Step.{Step}
use Rattle.steps.specs.Steps.{no_step, is_step, step_of, reaches, last_reached, taken, asked}
use Rattle.figures.specs.Figures.{step_at, steps_at, last_at, next_at, figure_rows, figure_trouble, read_figure}
use Rattle.site.specs.Site.{undisturbed, minimum_disturbed, minimum_points}
use Rattle.demands.specs.FigureFile.{GoodList, GoodFigure, ReachesStep, Takes, LeastBySteps}
use Rattle.demands.proofs.Troubles.{good_checks}
use Rattle.demands.proofs.GoodFigures.{good_exactly}

-- Of a list's places: the last that is reached, or the first

module _ (is_reached : Step → Bool) (l : List Step) where
  record Found (n : ℕ) : Type 0 where
    index : ℕ
    inside : index < n
    own : (is_reached (step_of l index) ≡ true) ⊎ (index ≡ 0)
    last : (k : ℕ) → index < k → k < n → is_reached (step_of l k) ≡ false
    is : last_reached is_reached l n ≡ step_of l index

  found : (n : ℕ) → Found (suc n)
  unfolding last_reached
  found zero =
      record {
        index = 0;
        inside = omega arith;
        own = inr refl;
        last = λ k above below. absurd (omega arith);
        is = either (is_reached (step_of l 0));
      }
    where
      either : (b : Bool) → cond b (step_of l 0) (step_of l 0) ≡ step_of l 0
      either true = refl
      either false = refl
  found (suc n) = go (found n) (is_reached (step_of l (suc n))) refl
    where
      go : Found (suc n) → (b : Bool) → is_reached (step_of l (suc n)) ≡ b → Found (suc (suc n))
      go before true e =
          record { index = suc n; inside = omega arith; own = inl e; last = λ k above below. absurd (omega arith); is = rw e }
      go before false e =
          record {
            index = before.index;
            inside = omega (arith, before.inside);
            own = before.own;
            last = λ k above below.
                ⊎_elim (λ same. rw same e) (λ less. before.last k above less) (eq-or-lt_of_le (le_of_suc-le-suc below));
            is = rw e before.is;
          }

-- A good list's places: its steps, and behind them none

behind : (f : List ℕ) (at n i : ℕ) → n ≤ i → get_or (padded greatest_step_count no_step (step_at f at) n) i no_step ≡ no_step
unfolding padded
behind f at zero i past = empty greatest_step_count i
  where
    empty : (size k : ℕ) → get_or (replicate size no_step) k no_step ≡ no_step
    empty zero k = refl
    empty (suc size) zero = refl
    empty (suc size) (suc k) = empty size k
behind f at (suc n) i past =
    get_or-set_other (padded greatest_step_count no_step (step_at f at) n) n i (step_at f at n) no_step (λ e. omega arith)
    ∙ behind f at n i (omega arith)

module _ (f : List ℕ) (at : ℕ) (good : GoodList f at) where
  place_of : (i : ℕ) → i < byte_at f at → step_of (steps_at f at) i ≡ step_at f at i
  unfolding steps_at
  place_of i inside = pad_at greatest_step_count no_step (step_at f at) (byte_at f at) i inside good.few

  no_place : (i : ℕ) → byte_at f at ≤ i → step_of (steps_at f at) i ≡ no_step
  unfolding steps_at
  no_place i past = behind f at (byte_at f at) i past

  is_step_lem : (i : ℕ) → i < byte_at f at → is_step (step_of (steps_at f at) i) ≡ true
  is_step_lem i inside = rw (place_of i inside, ne_eqb (step_at f at i).round 0 (λ e. omega (arith, e, (good.steps i inside).some_round)))

  module _ (s : Site) (distance : ℕ) where
    reached : (i : ℕ) → i < byte_at f at → reaches (diameter s) distance (step_of (steps_at f at) i) ≡ true → ReachesStep f at s distance i
    unfolding reaches
    reached i inside e =
        let step : Step = step_of (steps_at f at) i in
        rw (place_of i inside) at
        (leb-true (step.least * (diameter s).over) (100 * (distance * (diameter s).under)) (both_right (is_step step) _ e))

    not_reached : (i : ℕ) → i < byte_at f at → reaches (diameter s) distance (step_of (steps_at f at) i) ≡ false → ReachesStep f at s distance i → ⊥
    unfolding reaches
    not_reached i inside e h = true≢false (sym (rw (is_step_lem i inside, place_of i inside, le-leb _ _ h)) ∙ e)

    record Taken : Type 0 where
      index : ℕ
      takes : Takes f at s distance index
      is : taken (diameter s) distance (steps_at f at) ≡ step_at f at index

    -- none behind the steps is reached
    within_steps : (i : ℕ) → (reaches (diameter s) distance (step_of (steps_at f at) i) ≡ true) ⊎ (i ≡ 0) → i < byte_at f at
    unfolding reaches
    within_steps i own = go own (ltb i (byte_at f at)) refl
      where
        go : (reaches (diameter s) distance (step_of (steps_at f at) i) ≡ true) ⊎ (i ≡ 0) → (b : Bool) → ltb i (byte_at f at) ≡ b → i < byte_at f at
        go own true less = ltb-true i (byte_at f at) less
        go (inl hit) false past = absurd (false≢true (rw (no_place i (ltb-false i (byte_at f at) past)) at hit))
        go (inr first) false past = omega (arith, first, good.some)

    takes_one : Taken
    takes_one =
        let places = found (reaches (diameter s) distance) (steps_at f at) 15 in
        let inside = within_steps places.index places.own in
        record {
          index = places.index;
          takes =
              record {
                inside = inside;
                own = ⊎_elim (λ hit. inl (reached places.index inside hit)) (λ first. inr first) places.own;
                last = λ k above below. not_reached k below (places.last k above (omega (arith, below, good.few)));
              };
          is = places.is ∙ place_of places.index inside;
        }

-- For every good figure and every site that is not undisturbed
pub least_by_steps : (f : List ℕ) → GoodFigure f → (s : Site) → undisturbed s ≡ false → LeastBySteps f s
unfolding figure_trouble read_figure asked minimum_disturbed minimum_points
least_by_steps f good s near =
    let last = takes_one f last_at good.last s s.last in
    let next = takes_one f (next_at f) good.next s s.next in
    let clear : figure_trouble f ≡ Clear = good_checks (figure_rows f) ((good_exactly f).1 good) in
    record {
      i = last.index;
      j = next.index;
      last = last.takes;
      next = next.takes;
      least = rw (clear, near, is_step_lem f last_at good.last 0 good.last.some, last.is, next.is);
    }
