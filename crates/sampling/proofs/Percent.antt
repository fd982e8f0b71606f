-- When line 18 is worked, and from what: its divisor is then not 0.
use Rattle.std.specs.Prelude.{Option, Some, None}
use Prim.Native.Nat.{ℕ, zero, suc, ◌+◌, ◌*◌, ◌^◌, ◌≤◌, ◌<◌}
use mathlib.Core.Path.{◌≡◌, refl}
use mathlib.Core.Logic.{◌⊎◌, inl, inr}
use native.Mathlib.Omega.{arith}
use Rattle.arith.specs.Rounding.{round_div, division}
use Rattle.readings.specs.Ranges.{least_seconds}
use Rattle.values.specs.declared.Diameters.{Diameters}
use Rattle.values.specs.Promise.{DiametersOk}
use Rattle.sampling.specs.Sampling.{nozzle_area, isokinetic}
use Rattle.sampling.proofs.Cases.{isokinetic_known}
use Rattle.sampling.proofs.Products.{sum_range, is_area, divisor_least}

-- line 16 of diameters in range is not 0
area_least : (d : Option Diameters) {a : ℕ} → DiametersOk d → nozzle_area d ≡ Some a → 5454 ≤ a
unfolding nozzle_area
area_least None ok e = let z : ◌≡◌ {A = ℕ} 0 1 = cc in absurd (omega arith)
area_least (Some n) {a} ok e =
    let (least, most) = sum_range n ok refl in
    let sum : ℕ = n.first + n.second + n.third in
    let is : round_div (31416 * (sum * sum)) 518400 ≡ a = cc in
    omega (arith, (is_area least most refl).low)

-- what line 18 is worked from: lines 17, 15 and 16, and the time t
pub record WorkedFrom (drawn velocity area : Option ℕ) (t : ℕ) : Type 0 where
  pub gas : ℕ
  pub speed : ℕ
  pub opening : ℕ
  pub is_drawn : drawn ≡ Some gas
  pub is_velocity : velocity ≡ Some speed
  pub is_area : area ≡ Some opening
  pub moving : 0 < speed
  pub is : isokinetic drawn velocity area t ≡ Some (division (6 * 10 ^ 11 * gas) (speed * opening * t))

pub worked_or_not : (drawn velocity area : Option ℕ) (t : ℕ) → (isokinetic drawn velocity area t ≡ None) ⊎ WorkedFrom drawn velocity area t
unfolding isokinetic
worked_or_not None velocity area t = inl refl
worked_or_not (Some g) None area t = inl refl
worked_or_not (Some g) (Some s) None t = inl refl
worked_or_not (Some g) (Some zero) (Some a) t = inl refl
worked_or_not (Some g) (Some (suc s)) (Some a) t =
    inr
    (record {
      gas = g;
      speed = suc s;
      opening = a;
      is_drawn = refl;
      is_velocity = refl;
      is_area = refl;
      moving = omega arith;
      is = isokinetic_known t refl refl refl (omega arith);
    })

-- its divisor, of diameters and a time in range
pub divisor_some : {d : Option Diameters} {speed opening t : ℕ} → DiametersOk d → nozzle_area d ≡ Some opening → 0 < speed → least_seconds ≤ t → 0 < speed * opening * t
divisor_some {d} ok area some time = omega (arith, divisor_least some (area_least d ok area) time)
