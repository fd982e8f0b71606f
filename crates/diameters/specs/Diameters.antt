-- The diameter of a stack (docs/RULES.md, The findings), as a fraction.
use Rattle.std.specs.Prelude.{ℕ, ◌+◌, ◌*◌, ◌^◌, ◌≤◌, ◌≡◌, Bool, cond, eqb}
use Rattle.readings.specs.Ranges.{round_shape}
use Rattle.records.specs.declared.Site.{Site}
use Rattle.diameters.specs.declared.Length.{Length}

-- a site is round, or rectangular
abbrev pub is_round : Site → Bool
is_round s = eqb s.shape round_shape

-- a length as a fraction, 0.1 in
abbrev pub fraction : ℕ → ℕ → Length
fraction over under = record { over = over; under = under }

-- the diameter, over / under: of a rectangle 2LW/(L+W)
unfoldable pub diameter : Site → Length
diameter s = cond (is_round s) (fraction s.first 1) (fraction (2 * (s.first * s.second)) (s.first + s.second))

-- half of it: of a rectangle LW/(L+W)
unfoldable pub half_diameter : Site → Length
half_diameter s = cond (is_round s) (fraction s.first 2) (fraction (s.first * s.second) (s.first + s.second))

-- r is the length l, whose parts are no larger than two sides can make them
pub record IsLength (l r : Length) : Type 0 where
  pub is : r ≡ l
  pub over : r.over ≤ 2 ^ 35
  pub under : r.under ≤ 2 ^ 17
