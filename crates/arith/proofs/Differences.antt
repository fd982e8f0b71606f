-- The difference of two numbers, which has a sign.
use Prim.Native.Nat.{ℕ, suc, ◌-◌, ◌≤◌, ◌<◌}
use native.Mathlib.Nat.{lt_of_not-le}
use native.Mathlib.Decide.{dec_le}
use borrow.Author.Tests.{lt-ltb, le-ltb}
use lib.IntN.{ℤ, pos, negsuc, sub_ℕ}

-- what holds of a - b where b is at most a, and of what is missing, below zero, where b is more, holds of the difference
pub either_sign : (P : ℤ → Type 0) (a b : ℕ) → (b ≤ a → P (pos (a - b))) → (a < b → P (negsuc (b - suc a))) → P (sub_ℕ a b)
either_sign P a b enough missing = go (dec_le b a)
  where
    go : Dec (b ≤ a) → P (sub_ℕ a b)
    go (yes h) = rw (le-ltb a b h) (enough h)
    go (no f) = rw (lt-ltb a b (lt_of_not-le f)) (missing (lt_of_not-le f))
