-- The laws of rounded division: it is the nearest whole number, at a half the upper one, and no other is.
use Prim.Native.Nat.{ℕ, ◌+◌, ◌-◌, ◌*◌, ◌/◌, ◌%◌, ◌≤◌, ◌<◌}
use mathlib.Core.Path.{◌≡◌, sym, ◌∙◌}
use native.Mathlib.Nat.{mul_left_comm, add-mul, one-mul, div-mul-le_self, lt-div-mul-add, div-eq_of_lt-le, div-lt_iff_lt-mul, le-div_iff_mul-le, div-add-mod', mod-lt}
use native.Mathlib.Omega.{arith}
use Rattle.arith.specs.Rounding.{round_div, IsRounded}

double_pos : {d : ℕ} → 0 < d → 0 < 2 * d
double_pos h = omega arith

pub round_is : (n d : ℕ) → 0 < d → IsRounded n d (round_div n d)
unfolding round_div
round_is n d h =
    let q : ℕ = (2 * n + d) / (2 * d) in
    let swap : q * (2 * d) ≡ 2 * (q * d) = mul_left_comm q 2 d in
    let l : q * (2 * d) ≤ 2 * n + d = div-mul-le_self (2 * n + d) (2 * d) in
    let u : 2 * n + d < q * (2 * d) + 2 * d = lt-div-mul-add (double_pos h) in
    record { low = omega arith; high = omega arith }

pub round_unique : {n d r : ℕ} → 0 < d → IsRounded n d r → r ≡ round_div n d
unfolding round_div
round_unique {n} {d} {r} h i =
    let swap : r * (2 * d) ≡ 2 * (r * d) = mul_left_comm r 2 d in
    let more : (r + 1) * (2 * d) ≡ r * (2 * d) + 2 * d = add-mul r 1 (2 * d) ∙ rw one-mul in
    let l : r * (2 * d) ≤ 2 * n + d = omega (arith, i.low) in
    let u : 2 * n + d < (r + 1) * (2 * d) = omega (arith, i.high) in
    sym (div-eq_of_lt-le (2 * d) l u)

-- What the quotient and the remainder decide
pub round_up : (n d : ℕ) → 0 < d → d - n % d ≤ n % d → n / d + 1 ≡ round_div n d
round_up n d h up =
    let parts : n / d * d + n % d ≡ n = div-add-mod' n d in
    let more : (n / d + 1) * d ≡ n / d * d + d = add-mul (n / d) 1 d ∙ rw one-mul in
    let rest : n % d < d = mod-lt n h in
    round_unique h (record { low = omega arith; high = omega arith })

pub round_down : (n d : ℕ) → 0 < d → n % d < d - n % d → n / d ≡ round_div n d
round_down n d h down =
    let parts : n / d * d + n % d ≡ n = div-add-mod' n d in
    let rest : n % d < d = mod-lt n h in
    round_unique h (record { low = omega arith; high = omega arith })

-- No more than m, exactly: below m and a half
pub round_le_exact : (n d m : ℕ) → 0 < d → 2 * n < 2 * (m * d) + d → round_div n d ≤ m
unfolding round_div
round_le_exact n d m h b =
    let swap : (m + 1) * (2 * d) ≡ 2 * (m * d) + 2 * d = add-mul m 1 (2 * d) ∙ rw (one-mul, mul_left_comm m 2 d) in
    let b' : 2 * n + d < (m + 1) * (2 * d) = omega arith in
    let l : (2 * n + d) / (2 * d) < m + 1 = (div-lt_iff_lt-mul (double_pos h)).1 b' in
    omega arith

pub round_le : (n d m : ℕ) → 0 < d → n ≤ m * d → round_div n d ≤ m
round_le n d m h b = round_le_exact n d m h (omega arith)

-- No less than m, exactly: m less a half, or above
pub le_round_exact : (n d m : ℕ) → 0 < d → 2 * (m * d) ≤ 2 * n + d → m ≤ round_div n d
unfolding round_div
le_round_exact n d m h b =
    let swap : m * (2 * d) ≡ 2 * (m * d) = mul_left_comm m 2 d in
    (le-div_iff_mul-le (double_pos h)).1 (omega arith)

pub le_round : (n d m : ℕ) → 0 < d → m * d ≤ n → m ≤ round_div n d
le_round n d m h b = le_round_exact n d m h (omega arith)

-- A larger numerator never rounds lower
pub round_mono : (n m d : ℕ) → 0 < d → n ≤ m → round_div n d ≤ round_div m d
round_mono n m d h le =
    let i : IsRounded m d (round_div m d) = round_is m d h in
    round_le_exact n d (round_div m d) h (omega (arith, i.high))
