-- The acetone's share: the smaller of the two.
use native.Mathlib.Omega.{arith}
use Rattle.sampling.specs.Sampling.{deduction}
use Rattle.sampling.proofs.Products.{deduction_most}
use Rattle.readings.proofs.Ranges.{within_least}
use mathlib.Core.Path.{◌≡◌, ◌∙◌, ap}
use Prim.Native.Nat.{ℕ, ◌*◌, ◌/◌, min}
use Rattle.arith.specs.Rounding.{round_div}
use Rattle.records.specs.declared.Acetone.{Acetone}
use Rattle.records.specs.InRange.{AcetoneOk}
use Rattle.values.specs.Promise.{Is}
use Rattle.sampling.proofs.deduction.Goals as goal

is_deduction : (a : Acetone) (found r : ℕ) → AcetoneOk a → found ≡ round_div (a.residue * a.rinse) a.blank → r ≡ min found (a.rinse * a.density / 100000) → Is 0 99 (deduction a) r
unfolding deduction
is_deduction a found r ok e er =
    let is : r ≡ deduction a = er ∙ ap (λ x. min x (a.rinse * a.density / 100000)) e in
    record { is = is; low = omega arith; high = rw is (deduction_most a ok) }

pub round_div-found-requires : goal.round_div-found-requires
round_div-found-requires c = within_least _ _ _ c.requires.blank

pub returns : goal.returns
returns c = is_deduction _ _ _ c.requires c.round_div-found.ensures c.min.ensures
