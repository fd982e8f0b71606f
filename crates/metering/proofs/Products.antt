-- The bounds of the products of lines 3 and 6.
use Prim.Native.Nat.{ℕ, ◌*◌, ◌≤◌}
use native.Mathlib.Nat.{mul-le-mul, mul-le-mul_left}
use Rattle.readings.specs.Ranges.{greatest_factor, greatest_above_first, greatest_total_seconds}
use Rattle.records.specs.declared.Segment.{Segment}
use Rattle.records.specs.InRange.{SegmentOk}
use Rattle.metering.proofs.Points.{segment_seconds_most, leak_most}

-- Line 3: a leak times 5·T, and a segment's loss
pub leaked_most : {t : ℕ} (s : Segment) → t ≤ greatest_total_seconds → SegmentOk s → 5 * t * s.leak ≤ 180000000
leaked_most s h ok = mul-le-mul (mul-le-mul_left 5 h) (leak_most ok)

pub loss_most : {excess : ℕ} (s : Segment) → SegmentOk s → excess ≤ 180000000 → s.seconds * excess ≤ 6480000000000
loss_most s ok h = mul-le-mul (segment_seconds_most ok) h

-- Line 6
pub dry_product : {corrected f : ℕ} → corrected ≤ greatest_above_first → f ≤ greatest_factor → 1764 * corrected * f ≤ 19403980596000
dry_product h y = mul-le-mul (mul-le-mul_left 1764 h) y

pub dry_numerator : {corrected f p : ℕ} → corrected ≤ greatest_above_first → f ≤ greatest_factor → p ≤ 334706 → 1764 * corrected * f * p ≤ 6494628729364776000
dry_numerator h y q = mul-le-mul (dry_product h y) q
