-- Where rows stand in their record and certificates in their file, in either version.
use Prim.Native.Nat.{ℕ, suc, ◌+◌, ◌≤◌, ◌<◌}
use mathlib.Core.Path.{◌≡◌, refl}
use mathlib.Core.Bool.{true}
use native.Mathlib.Omega.{arith}
use lib.Dec.{leb}
use Rattle.fields.proofs.FirstTrouble.{each}
use Rattle.readings.specs.declared.headers.Version.{Version}
use Rattle.readings.specs.declared.headers.Version.TheVariants.{One, Two}
use Rattle.records.specs.declared.Certificate.{Certificate}
use Rattle.records.specs.declared.RunHeader.{RunHeader}
use Rattle.heads.specs.Values.{certificate_size, run_header_size, certificate_place}
use Rattle.heads.specs.Rows.{certificate_rows, header_rows}

-- the place of every row lies within its record

pub certificate_within : (v : Version) (c : Certificate) → each (λ n p. leb p (certificate_size v)) (certificate_rows v c) ≡ true
certificate_within One c = refl
certificate_within Two c = refl

pub header_within : (v : Version) (h : RunHeader) (spare : ℕ) → each (λ n p. leb p (run_header_size v)) (header_rows v h spare) ≡ true
header_within One h spare = refl
header_within Two h spare = refl

-- a certificate stands where the one before it ends ..
pub next_place : (v : Version) (k : ℕ) → certificate_place v (suc k) ≡ certificate_place v k + certificate_size v
next_place One k = omega arith
next_place Two k = omega arith

-- .. and ends no later than a later one begins
pub ends_before : (v : Version) (j k : ℕ) → j < k → certificate_place v j + certificate_size v ≤ certificate_place v k
ends_before One j k less = omega arith
ends_before Two j k less = omega arith
