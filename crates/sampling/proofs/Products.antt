-- The bounds of the products of lines 16 to 19.
use Rattle.std.specs.Prelude.{Option, Some}
use Prim.Native.Nat.{ℕ, ◌+◌, ◌*◌, ◌/◌, ◌≤◌}
use mathlib.Core.Path.{◌≡◌}
use native.Mathlib.Nat.{mul-le-mul, mul-le-mul_left, min-le_right, le_trans}
use native.Mathlib.Omega.{arith}
use lib.Dec.{lit<}
use Rattle.arith.specs.Rounding.{round_div}
use Rattle.readings.specs.Ranges.{greatest_rinse_volume, least_seconds, greatest_total_seconds}
use Rattle.readings.proofs.Ranges.{within_greatest}
use Rattle.records.specs.declared.Acetone.{Acetone}
use Rattle.records.specs.InRange.{AcetoneOk}
use Rattle.values.specs.declared.Diameters.{Diameters}
use Rattle.values.specs.Promise.{Is, DiametersOk}
use Rattle.values.proofs.Promise.{rounded}
use Rattle.stack.specs.Promise.{greatest_velocity}
use Rattle.sampling.specs.Sampling.{deduction}

-- Line 16
pub sum_range : {d : Option Diameters} (n : Diameters) → DiametersOk d → d ≡ Some n → (300 ≤ n.first + n.second + n.third) × (n.first + n.second + n.third ≤ 3000)
sum_range n ok e = let each = ok.measured n e in (omega (arith, each), omega (arith, each))

pub square_most : {s : ℕ} → s ≤ 3000 → s * s ≤ 9000000
square_most h = mul-le-mul h h

square_least : {s : ℕ} → 300 ≤ s → 90000 ≤ s * s
square_least h = mul-le-mul h h

pub is_area : {s r : ℕ} → 300 ≤ s → s ≤ 3000 → r ≡ round_div (31416 * (s * s)) 518400 → Is 5454 545417 (round_div (31416 * (s * s)) 518400) r
is_area least most e = rounded 5454 545417 (lit< tt) e (omega (arith, square_least least)) (omega (arith, square_most most))

-- Line 17
pub drawn_numerator : {t s : ℕ} → t ≤ 24600 → s ≤ 1506016 → 945 * t * s ≤ 35010353952000
drawn_numerator ht hs = mul-le-mul (mul-le-mul_left 945 ht) hs

-- Line 18
pub divisor_most : {s a : ℕ} → s ≤ greatest_velocity → a ≤ 545417 → s * a ≤ 408642233493
divisor_most hs ha = mul-le-mul hs ha

pub divisor_time_most : {s a t : ℕ} → s ≤ greatest_velocity → a ≤ 545417 → t ≤ greatest_total_seconds → s * a * t ≤ 14711120405748000
divisor_time_most hs ha ht = mul-le-mul (divisor_most hs ha) ht

pub divisor_least : {s a t : ℕ} → 1 ≤ s → 5454 ≤ a → least_seconds ≤ t → 5454 ≤ s * a * t
divisor_least hs ha ht = mul-le-mul (mul-le-mul hs ha) ht

-- Line 19's deduction
rinse_most : {a : Acetone} → AcetoneOk a → a.rinse ≤ greatest_rinse_volume
rinse_most ok = within_greatest _ _ _ ok.rinse

pub density_product : {a : Acetone} → AcetoneOk a → a.rinse * a.density ≤ 9999000
density_product ok = mul-le-mul (rinse_most ok) (within_greatest _ _ _ ok.density)

pub deduction_most : (a : Acetone) → AcetoneOk a → deduction a ≤ 99
unfolding deduction
deduction_most a ok =
    let product : a.rinse * a.density ≤ 9999000 = density_product ok in
    let share : a.rinse * a.density / 100000 ≤ 99 = omega arith in
    le_trans (min-le_right _ (a.rinse * a.density / 100000)) share
