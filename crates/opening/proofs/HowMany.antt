-- How many letters identities have.
use Prim.Native.Nat.{ℕ, ◌*◌, ◌≤◌}
use mathlib.Core.Path.{◌≡◌}
use native.Mathlib.Nat.{mul-zero, mul-one}
use native.Mathlib.Omega.{arith}
use Rattle.readings.specs.declared.headers.Version.{Version}
use Rattle.readings.specs.declared.headers.Version.TheVariants.{One, Two}
use Rattle.opening.specs.Opening.{letters}

-- at most one each
pub few : (v : Version) (n : ℕ) → letters v n ≤ n
few One n = omega arith
few Two n = omega arith

-- as many times those of one
pub times_each : (v : Version) (n : ℕ) → n * letters v 1 ≡ letters v n
times_each One n = mul-zero n
times_each Two n = mul-one n
