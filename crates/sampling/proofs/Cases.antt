-- Lines 16, 17, 18 and 20 case by case.
use Rattle.std.specs.Prelude.{Option, Some, None}
use Prim.Native.Nat.{ℕ, ◌+◌, ◌*◌, ◌^◌}
use mathlib.Core.Path.{◌≡◌, refl}
use borrow.Author.Tests.{eq-eqb, ne_eqb}
use lib.IntN.{ℤ, pos, negsuc}
use Rattle.arith.specs.Rounding.{round_div, division}
use Rattle.values.specs.declared.Diameters.{Diameters}
use Rattle.sampling.specs.Sampling.{nozzle_area, drawn_gas, isokinetic, concentration}

-- Line 16
pub area_missing : {d : Option Diameters} → d ≡ None → nozzle_area d ≡ None
unfolding nozzle_area
area_missing e = rw e

pub area_known : {d : Option Diameters} {n : Diameters} → d ≡ Some n → nozzle_area d ≡ Some (round_div (31416 * ((n.first + n.second + n.third) * (n.first + n.second + n.third))) 518400)
unfolding nozzle_area
area_known e = rw e

-- Line 17
pub drawn_missing : {dry : Option ℕ} (v p t : ℕ) → dry ≡ None → drawn_gas dry v p t ≡ None
unfolding drawn_gas
drawn_missing v p t e = rw e

pub drawn_known : {dry : Option ℕ} {d : ℕ} (v p t : ℕ) → dry ≡ Some d → drawn_gas dry v p t ≡ Some (round_div (945 * t * (d + v)) (10 * p))
unfolding drawn_gas
drawn_known v p t e = rw e

-- Line 18
pub isokinetic_no_gas : {drawn : Option ℕ} (velocity area : Option ℕ) (t : ℕ) → drawn ≡ None → isokinetic drawn velocity area t ≡ None
unfolding isokinetic
isokinetic_no_gas velocity area t e = rw e

pub isokinetic_no_velocity : {velocity : Option ℕ} (drawn area : Option ℕ) (t : ℕ) → velocity ≡ None → isokinetic drawn velocity area t ≡ None
unfolding isokinetic
isokinetic_no_velocity None area t e = refl
isokinetic_no_velocity (Some g) area t e = rw e

pub isokinetic_no_area : {area : Option ℕ} (drawn velocity : Option ℕ) (t : ℕ) → area ≡ None → isokinetic drawn velocity area t ≡ None
unfolding isokinetic
isokinetic_no_area None velocity t e = refl
isokinetic_no_area (Some g) None t e = refl
isokinetic_no_area (Some g) (Some s) t e = rw e

pub isokinetic_still : {velocity : Option ℕ} {s : ℕ} (drawn area : Option ℕ) (t : ℕ) → velocity ≡ Some s → s ≡ 0 → isokinetic drawn velocity area t ≡ None
unfolding isokinetic
isokinetic_still None area t e z = refl
isokinetic_still (Some g) None t e z = rw e
isokinetic_still {s = s} (Some g) (Some a) t e z = rw (e, eq-eqb s 0 z)

pub isokinetic_known : {drawn velocity area : Option ℕ} {g s a : ℕ} (t : ℕ) → drawn ≡ Some g → velocity ≡ Some s → area ≡ Some a → (s ≡ 0 → ⊥) → isokinetic drawn velocity area t ≡ Some (division (6 * 10 ^ 11 * g) (s * a * t))
unfolding isokinetic
isokinetic_known {s = s} t e f h some = rw (e, f, h, ne_eqb s 0 some)

-- Line 20
pub concentration_no_volume : {dry : Option ℕ} (z : ℤ) → dry ≡ None → concentration z dry ≡ None
unfolding concentration
concentration_no_volume (pos n) e = rw e
concentration_no_volume (negsuc n) e = refl

pub concentration_negative : {z : ℤ} {n : ℕ} (dry : Option ℕ) → z ≡ negsuc n → concentration z dry ≡ None
unfolding concentration
concentration_negative dry e = rw e

pub concentration_known : {z : ℤ} {n d : ℕ} {dry : Option ℕ} → z ≡ pos n → dry ≡ Some d → concentration z dry ≡ Some (round_div (154300 * n) d)
unfolding concentration
concentration_known e f = rw (e, f)
