-- Line 19. The two sums and the deduction, subtracted as signed numbers.
use Prim.Native.Nat.{ℕ, ◌+◌, ◌≤◌}
use mathlib.Core.Path.{◌≡◌, ◌∙◌, ap₂, subst⁻¹}
use mathlib.Core.List.{List}
use native.Mathlib.Omega.{arith}
use lib.IntN.{sub_ℕ, ◌-ℤ◌}
use mir.Facts.{to_z-of_z}
use mir.Syntax.{w64}
use mir.Val.{SFits, to_z, of_z}
use Rattle.records.specs.declared.Acetone.{Acetone}
use Rattle.records.specs.declared.Weighing.{Weighing}
use Rattle.values.specs.Promise.{Is}
use Rattle.sampling.specs.declared.WeighingSums.{WeighingSums}
use Rattle.sampling.specs.Promise.{AreWeighingSums, IsCatch}
use Rattle.sampling.specs.Sampling.{deduction, catch}
use Rattle.sampling.proofs.Difference.{difference, catch_ok, catch_fits}
use Rattle.sampling.proofs.catch.Goals as goal

fits : (a b : ℕ) → a ≤ 32000000 → b ≤ 32000099 → SFits w64 (to_z w64 a -ℤ to_z w64 b)
fits a b ha hb = subst⁻¹ (SFits w64) (difference a b (omega arith) (omega arith)) (catch_fits _ (catch_ok a b ha hb))

is_catch : (weighings : List Weighing) (n : ℕ) (acetone : Acetone) (s : WeighingSums) (d : ℕ) → AreWeighingSums weighings n s → Is 0 99 (deduction acetone) d → IsCatch (catch weighings n acetone) (to_z w64 (of_z w64 (to_z w64 s.finals -ℤ to_z w64 (s.tares + d))))
unfolding catch
is_catch weighings n acetone s d sums id =
    let finals = sums.finals in
    let tares = sums.tares in
    let small : s.tares + d ≤ 32000099 = omega (arith, tares.high, id.high) in
    let back : to_z w64 (of_z w64 (to_z w64 s.finals -ℤ to_z w64 (s.tares + d))) ≡ sub_ℕ s.finals (s.tares + d) =
    to_z-of_z (fits _ _ finals.high small) ∙ difference s.finals (s.tares + d) (omega (arith, finals.high)) (omega arith) in
    record {
      is = back ∙ ap₂ sub_ℕ finals.is (ap₂ ◌+◌ tares.is id.is);
      range = rw back (catch_ok _ _ finals.high small);
    }

pub returns : goal.returns
returns c = is_catch _ _ _ _ _ c.weighing_sums-weighed.ensures c.deduction.ensures
