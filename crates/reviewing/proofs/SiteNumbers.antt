-- The numbers of rules 7 and 8, round and rectangular.
use Prim.Native.Nat.{◌+◌, ◌*◌}
use mathlib.Core.Path.{◌≡◌, refl, ap}
use native.Mathlib.Nat.{mul_comm, mul-one}
use native.Mathlib.Omega.{arith}
use lib.IntN.{pos}
use borrow.Author.Tests.{eq-eqb, ne_eqb}
use Rattle.readings.specs.Ranges.{round_shape}
use Rattle.records.specs.declared.Site.{Site}
use Rattle.diameters.specs.Diameters.{fraction, diameter, half_diameter}
use Rattle.grounds.specs.Showing.{conditions}
use Rattle.reviewing.specs.Shown.{once, twice, SiteNumbers}

-- The diameter and half of it, by the shape
module _ (s : Site) where
  round : s.shape ≡ round_shape → (diameter s ≡ fraction s.first 1) × (half_diameter s ≡ fraction s.first 2)
  unfolding diameter half_diameter
  round e = (rw (eq-eqb _ _ e), rw (eq-eqb _ _ e))

  rectangular : (s.shape ≡ round_shape → ⊥) → (diameter s ≡ fraction (2 * (s.first * s.second)) (s.first + s.second)) × (half_diameter s ≡ fraction (s.first * s.second) (s.first + s.second))
  unfolding diameter half_diameter
  rectangular e = (rw (ne_eqb _ _ e), rw (ne_eqb _ _ e))

  pub site_numbers : SiteNumbers s
  unfolding conditions
  site_numbers =
      record {
        narrow_round = λ e. rw (round e).0 (once _ refl (refl, (refl, (refl, refl))));
        disturbed_round = λ e. rw ((round e).0, (round e).1) (twice _ _ refl (refl, (refl, (ap pos (mul_comm _ 2), refl))) (refl, (refl, (ap pos (mul-one _), refl))));
        narrow_rectangular = λ e. rw (rectangular e).0 (once _ refl (refl, (refl, (refl, refl))));
        disturbed_rectangular = λ e. rw ((rectangular e).0, (rectangular e).1) (twice _ _ refl (refl, (refl, (refl, refl))) (refl, (refl, (refl, ap pos (omega arith)))));
      }
