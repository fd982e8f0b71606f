-- A figure is good, row by row, exactly where it is good in the words of the rules.
use Prim.Native.Nat.{ℕ, zero, suc, ◌+◌, ◌≤◌, ◌<◌}
use mathlib.Core.Path.{◌≡◌, refl}
use mathlib.Core.Bool.{true}
use mathlib.Core.List.{List, [], ◌∷◌, ◌++◌}
use mathlib.Core.Logic.{◌↔◌, ⊎_elim}
use native.Mathlib.Nat.{eq-or-lt_of_le, le_of_suc-le-suc, lt-suc_self}
use native.Mathlib.Omega.{arith}
use borrow.Author.Tests.{leb-true, eqb-true, le-leb}
use lib.Dec.{leb, eqb}
use lib.ListN.{length}
use Rattle.fields.specs.Numbers.{byte_at, u16_at}
use Rattle.fields.specs.Trouble.{bad_figure, Row, AllGood}
use Rattle.readings.specs.Ranges.{within}
use Rattle.readings.proofs.Ranges.{both_left, both_right, within_least, within_greatest}
use Rattle.figures.specs.Figures.{opening_rows, step_place, step_at, distance_good, round_good, rectangular_good, step_rows, steps_rows, list_rows, list_end, last_at, next_at, figure_rows}
use Rattle.demands.specs.FigureFile.{GoodStep, Behind, GoodList, GoodFigure}

-- rows and then others, all good: so are both
both_good : (rs qs : List Row) → AllGood (rs ++ qs) → AllGood rs × AllGood qs
both_good [] qs good = (tt, good)
both_good (r ∷ rs) qs (own, rest) = let (these, those) = both_good rs qs rest in ((own, these), those)

-- of steps that are all good, each
each_step : (f : List ℕ) (at n : ℕ) → AllGood (steps_rows f at n) → (i : ℕ) → i < n → AllGood (step_rows f at i)
unfolding steps_rows
each_step f at zero good i inside = absurd (omega arith)
each_step f at (suc n) good i inside =
    let (before, last) = both_good (steps_rows f at n) (step_rows f at n) good in
    ⊎_elim
    (λ same. rw same last)
    (λ less. each_step f at n before i less)
    (eq-or-lt_of_le (le_of_suc-le-suc inside))

module _ (f : List ℕ) (at : ℕ) (good : AllGood (list_rows f at)) where
  steps_good : (i : ℕ) → i < byte_at f at → AllGood (step_rows f at i)
  unfolding list_rows
  steps_good = each_step f at (byte_at f at) good.1.1

  -- each step asks for no more than the first may
  good_step : (i : ℕ) → i < byte_at f at → GoodStep (step_at f at i)
  good_step zero inside =
      let (whole, (distance, (whole2, (round, (whole3, (rectangular, none)))))) = steps_good 0 inside in
      record {
        some_round = within_least _ _ _ round;
        few_round = within_greatest _ _ _ round;
        some_rectangular = within_least _ _ _ rectangular;
        few_rectangular = within_greatest _ _ _ rectangular;
      }
  good_step (suc i) inside =
      let (whole, (distance, (whole2, (round, (whole3, (rectangular, none)))))) = steps_good (suc i) inside in
      let before = good_step i (omega arith) in
      record {
        some_round = within_least _ _ _ round;
        few_round = omega (arith, within_greatest _ _ _ round, before.few_round);
        some_rectangular = within_least _ _ _ rectangular;
        few_rectangular = omega (arith, within_greatest _ _ _ rectangular, before.few_rectangular);
      }

  behind : (i : ℕ) → suc i < byte_at f at → Behind (step_at f at i) (step_at f at (suc i))
  behind i inside =
      let (whole, (distance, (whole2, (round, (whole3, (rectangular, none)))))) = steps_good (suc i) inside in
      record {
        distance = omega (arith, leb-true ((step_at f at i).least + 1) (step_at f at (suc i)).least distance);
        round = within_greatest _ _ _ round;
        rectangular = within_greatest _ _ _ rectangular;
      }

  good_list : GoodList f at
  unfolding list_rows
  good_list =
      record {
        some = within_least _ _ _ good.1.0;
        few = within_greatest _ _ _ good.1.0;
        steps = good_step;
        rising = behind;
      }

-- the last step of a list is whole
last_step_whole : (f : List ℕ) (at : ℕ) → AllGood (list_rows f at) → 1 ≤ byte_at f at → list_end f at ≤ length f
last_step_whole f at good some = go (byte_at f at) refl
  where
    go : (n : ℕ) → byte_at f at ≡ n → list_end f at ≤ length f
    go zero e = absurd (omega (arith, e, some))
    go (suc i) e =
        let (whole, (distance, (whole2, (round, (whole3, (rectangular, none)))))) = steps_good f at good i (omega (arith, e)) in
        omega (arith, e, leb-true (step_place at i + 3 + 1) (length f) whole3)

-- the rows behind the mark and the version, and behind the first list
abbrev end_rows : List ℕ → List Row
end_rows f = record { number = bad_figure; place = list_end f (next_at f); ok = leb (length f) (list_end f (next_at f)) } ∷ []

abbrev next_rows : List ℕ → List Row
next_rows f = list_rows f (next_at f) ++ end_rows f

-- Row by row: so in words

to_words : (f : List ℕ) → AllGood (figure_rows f) → GoodFigure f
unfolding opening_rows
to_words f good =
    let ((whole, (mark, (whole2, (version, none)))), rest) = both_good (opening_rows f) (list_rows f last_at ++ next_rows f) good in
    let (last, later) = both_good (list_rows f last_at) (next_rows f) rest in
    let (next, (end, none2)) = both_good (list_rows f (next_at f)) (end_rows f) later in
    let bytes = both_right (eqb (byte_at f 0) 70) _ mark in
    let steps = good_list f (next_at f) next in
    record {
      mark = (
        eqb-true _ _ (both_left (eqb (byte_at f 0) 70) _ mark),
        eqb-true _ _ (both_left (eqb (byte_at f 1) 73) _ bytes),
        eqb-true _ _ (both_right (eqb (byte_at f 1) 73) _ bytes),
      );
      version = omega (arith, within_least 1 1 (u16_at f 3) version, within_greatest 1 1 (u16_at f 3) version);
      last = good_list f last_at last;
      next = steps;
      whole = omega (arith, leb-true (length f) (list_end f (next_at f)) end, last_step_whole f (next_at f) next steps.some);
    }

-- In words: so row by row

all_good : (rs qs : List Row) → AllGood rs → AllGood qs → AllGood (rs ++ qs)
all_good [] qs none those = those
all_good (r ∷ rs) qs (own, these) those = (own, all_good rs qs these those)

in_range : (least greatest v : ℕ) → least ≤ v → v ≤ greatest → within least greatest v ≡ true
unfolding within
in_range least greatest v low high = rw (le-leb least v low, le-leb v greatest high)

all_steps : (f : List ℕ) (at n : ℕ) → ((i : ℕ) → i < n → AllGood (step_rows f at i)) → AllGood (steps_rows f at n)
unfolding steps_rows
all_steps f at zero each = tt
all_steps f at (suc n) each =
    all_good (steps_rows f at n) (step_rows f at n) (all_steps f at n (λ i inside. each i (omega arith))) (each n (lt-suc_self n))

module _ (f : List ℕ) (at : ℕ) (good : GoodList f at) (fits : list_end f at ≤ length f) where
  -- each field is complete; what it holds is told
  step_rows_lem : (i : ℕ) → i < byte_at f at → distance_good f at i ≡ true → round_good f at i ≡ true → rectangular_good f at i ≡ true → AllGood (step_rows f at i)
  step_rows_lem i inside distance round rectangular =
      let p : ℕ = step_place at i in
      let whole : p + 2 ≤ length f = omega (arith, fits) in
      let whole2 : p + 2 + 1 ≤ length f = omega (arith, fits) in
      let whole3 : p + 3 + 1 ≤ length f = omega (arith, fits) in
      (le-leb _ _ whole, (distance, (le-leb _ _ whole2, (round, (le-leb _ _ whole3, (rectangular, tt))))))

  step_good : (i : ℕ) → i < byte_at f at → AllGood (step_rows f at i)
  step_good zero inside =
      let p = good.steps 0 inside in
      step_rows_lem 0 inside (le-leb 0 (step_at f at 0).least (omega arith)) (in_range _ _ _ p.some_round p.few_round) (in_range _ _ _ p.some_rectangular p.few_rectangular)
  step_good (suc i) inside =
      let p = good.steps (suc i) inside in
      let q = good.rising i inside in
      step_rows_lem (suc i) inside (le-leb ((step_at f at i).least + 1) (step_at f at (suc i)).least (omega (arith, q.distance))) (in_range _ _ _ p.some_round q.round) (in_range _ _ _ p.some_rectangular q.rectangular)

  list_good : AllGood (list_rows f at)
  unfolding list_rows
  list_good = (
    le-leb (at + 1) (length f) (omega (arith, fits)),
    (in_range _ _ _ good.some good.few, all_steps f at (byte_at f at) step_good),
  )

from_words : (f : List ℕ) → GoodFigure f → AllGood (figure_rows f)
unfolding opening_rows
from_words f good =
    let ends : list_end f (next_at f) ≤ length f = omega (arith, good.whole) in
    all_good (opening_rows f) (list_rows f last_at ++ next_rows f) (
      le-leb 3 (length f) (omega (arith, ends)),
      (
        rw (good.mark.0, good.mark.1, good.mark.2),
        (le-leb 5 (length f) (omega (arith, ends)), (in_range 1 1 (u16_at f 3) (omega (arith, good.version)) (omega (arith, good.version)), tt)),
      ),
    )
    (all_good (list_rows f last_at) (next_rows f)
    (list_good f last_at good.last (omega (arith, ends)))
    (all_good (list_rows f (next_at f)) (end_rows f)
    (list_good f (next_at f) good.next ends)
    (le-leb (length f) (list_end f (next_at f)) (omega (arith, good.whole)), tt)))

-- A figure is read exactly where it is a good one
pub good_exactly : (f : List ℕ) → AllGood (figure_rows f) ↔ GoodFigure f
good_exactly f = (to_words f, from_words f)
