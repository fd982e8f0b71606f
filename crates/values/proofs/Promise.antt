-- How a rounded quotient and a choice keep a line's promise.
use Rattle.std.specs.Prelude.{Option, Some, None}
use Prim.Native.Nat.{ℕ, ◌+◌, ◌*◌, ◌≤◌, ◌<◌}
use mathlib.Core.Path.{◌≡◌}
use native.Mathlib.Omega.{arith}
use borrow.Author.Tests.{eq-eqb, ne_eqb}
use Rattle.arith.specs.declared.Division.{Division}
use Rattle.arith.specs.Rounding.{round_div}
use Rattle.arith.proofs.Rounding.{le_round, round_le_exact}
use Rattle.values.specs.Promise.{Is, Between, IsValue, IsRatio, unless_zero}

-- a rounded quotient is at least what it reaches, and at most what it stays less than a half above
pub rounded : {n d r : ℕ} (least greatest : ℕ) → 0 < d → r ≡ round_div n d → least * d ≤ n → 2 * n < 2 * (greatest * d) + d → Is least greatest (round_div n d) r
rounded {n} {d} least greatest some e low high =
    record {
      is = e;
      low = rw e (le_round n d least some low);
      high = rw e (round_le_exact n d greatest some high);
    }

-- nothing is known of a missing value
pub missing_between : {least greatest : ℕ} → Between least greatest None
missing_between = record { known = λ n e. absurd (never e) }
  where
    never : {n : ℕ} → None ≡ Some n → ⊥
    never e = let z : ◌≡◌ {A = ℕ} 0 1 = cc in omega arith

-- a known value's range is its number's
pub known_between : {least greatest n : ℕ} → least ≤ n → n ≤ greatest → Between least greatest (Some n)
known_between {least} {greatest} {n} low high = record { known = λ m e. at m e }
  where
    at : (m : ℕ) → Some n ≡ Some m → (least ≤ m) × (m ≤ greatest)
    at m e = let same : n ≡ m = cc in (omega arith, omega arith)

-- a missing answer where the definition is missing
pub is_missing : {least greatest : ℕ} {v r : Option ℕ} → v ≡ None → r ≡ None → IsValue least greatest v r
is_missing e none = record { is = rw (e, none); range = rw none missing_between }

-- a known answer where the definition is that number
pub is_known : {least greatest n r : ℕ} {v : Option ℕ} → Is least greatest n r → v ≡ Some n → IsValue least greatest v (Some r)
is_known {least} {greatest} {n} {r} {v} i e = record { is = cc i.is; range = known_between i.low i.high }

-- the same of a ratio
pub is_unworked : {least greatest : ℕ} {v r : Option Division} → v ≡ None → r ≡ None → IsRatio least greatest v r
is_unworked e none = record { is = rw (e, none); range = rw none missing_between }

pub is_exact : {least greatest n : ℕ} {d r : Division} {v : Option Division} → r ≡ d → Is least greatest n r.rounded → v ≡ Some d → IsRatio least greatest v (Some r)
is_exact e i known = record { is = rw (e, known); range = known_between i.low i.high }

-- what is divided by 0 is missing, and by any other number it is known
pub unless_zero_lem : {d : ℕ} (v : ℕ) → d ≡ 0 → unless_zero d v ≡ None
unfolding unless_zero
unless_zero_lem {d} v e = rw (eq-eqb d 0 e)

pub unless_some : (d v : ℕ) → (d ≡ 0 → ⊥) → unless_zero d v ≡ Some v
unfolding unless_zero
unless_some d v f = rw (ne_eqb d 0 f)
