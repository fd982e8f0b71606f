-- Rounded division: to the nearest whole unit, halves upward.
use Rattle.std.specs.Prelude.{ℕ, ◌+◌, ◌*◌, ◌/◌, ◌%◌, ◌≤◌, ◌<◌}
use Rattle.arith.specs.declared.Division.{Division}

-- n / d to the nearest whole number, halves upward
unfoldable pub round_div : ℕ → ℕ → ℕ
round_div n d = (2 * n + d) / (2 * d)

-- r is that number: n / d lies from r - 1/2 up to but not r + 1/2
pub record IsRounded (n d r : ℕ) : Type 0 where
  pub low : 2 * (r * d) ≤ 2 * n + d
  pub high : 2 * n < 2 * (r * d) + d

-- n / d: the whole quotient, the remainder, and the quotient rounded
unfoldable pub division : ℕ → ℕ → Division
division n d = record { quotient = n / d; remainder = n % d; rounded = round_div n d }
