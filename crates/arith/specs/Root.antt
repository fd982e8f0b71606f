-- The nearest root, worked a base-4 digit at a time, and what makes a number a root.
use Rattle.std.specs.Prelude.{ℕ, zero, suc, ◌+◌, ◌-◌, ◌*◌, ◌/◌, ◌^◌, ◌≤◌, ◌<◌, Bool, true, false, leb}
use Rattle.std.specs.Int.Count.{count_leading_zeros}

-- r, or one more where its square is still at most y
unfoldable pub grown : Bool → ℕ → ℕ
grown true r = r + 1
grown false r = r

-- the whole part of the square root of a number of at most k base-4 digits
unfoldable pub floor_root : ℕ → ℕ → ℕ
floor_root zero y = 0
floor_root (suc k) y =
    let r : ℕ = 2 * floor_root k (y / 4) in
    grown (leb ((r + 1) * (r + 1)) y) r

-- the whole part of the square root of a number below 2 ^ 64
abbrev pub whole_root : ℕ → ℕ
whole_root x = floor_root 32 x

-- the whole number nearest half the square root of y, for y below 2 ^ 64
unfoldable pub nearest_root : ℕ → ℕ
nearest_root y = (whole_root y + 1) / 2

-- q is that number: half the square root of y lies from q - 1/2 up to but not q + 1/2
pub record IsRoot (y q : ℕ) : Type 0 where
  pub low : (2 * q - 1) * (2 * q - 1) ≤ y
  pub high : y < (2 * q + 1) * (2 * q + 1)

-- the length in bits of a number below 2 ^ 64
abbrev pub bit_length : ℕ → ℕ
bit_length x = 64 - count_leading_zeros 64 x

-- the mean of b and of x divided by it: where b is not 0, the whole part of the square root of x is no higher
abbrev pub mean_bound : ℕ → ℕ → ℕ
mean_bound x b = (b + x / b) / 2

-- where the search for that whole part begins: from the length of x in bits, at the power of two of half that length
unfoldable pub first_bound : ℕ → ℕ
first_bound x = mean_bound x (2 ^ (bit_length x / 2))

-- q is the whole number nearest the square root of x: the root lies on q's side of the middle between q and any other p
abbrev pub NearestRootOf : ℕ → ℕ → Type 0
NearestRootOf x q = (p : ℕ) → (p < q → (p + q) * (p + q) ≤ 4 * x) × (q < p → 4 * x ≤ (p + q) * (p + q))

-- q is the largest whole number of which P holds
pub record Largest (P : ℕ → Type 0) (q : ℕ) : Type 0 where
  pub holds : P q
  pub most : (p : ℕ) → P p → p ≤ q
