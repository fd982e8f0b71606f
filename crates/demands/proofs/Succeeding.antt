-- A call that succeeds reduces a run: a refusal has a number from 1 on, in the high 32 bits.
use Prim.Native.Nat.{ℕ, ◌≤◌}
use mathlib.Core.List.{List}
use native.Mathlib.Omega.{arith}
use lib.Dec.{lit≤}
use Rattle.demands.proofs.Numbers.{numbers}
use Rattle.output.specs.Answers.{packed}
use Rattle.demands.specs.Table.{CallRefused, row14, of_file, row9, row10}
use Rattle.demands.specs.FigureFile.{Lent}
use Rattle.demands.specs.Demands.{Call, Promised, Succeeds, ReducesRun, CameTo, by_row, to_run}
use Rattle.demands.proofs.ByTable.{row_told}
use Rattle.demands.proofs.Demand1.{came_to}

some_number : {l : Lent} {s : List ℕ} {run lines findings n p : ℕ} → CallRefused l s run lines findings n p → 1 ≤ n
some_number (row14 f is bad) = lit≤ tt
some_number (of_file figure {number} {place} row) = (numbers _ (row_told _ row)).0
some_number (row10 figure good none) = lit≤ tt
some_number (row9 figure good k inside number short) = lit≤ tt

-- the run that a successful call reduced
pub record Done (c : Call) : Type 0 where
  pub index : ℕ
  pub reducing : ReducesRun c index

pub done : (c : Call) → Promised c → Succeeds c → Done c
unfolding packed
done c kept success = go (came_to c kept)
  where
    go : CameTo c → Done c
    go (by_row n p row refused) = absurd (omega (arith, some_number row, refused.answer, success))
    go (to_run k r) = record { index = k; reducing = r }
