-- The shape of a distance's promise.
use Rattle.std.specs.Prelude.{ℕ, ◌≤◌, ◌≡◌}

-- r is the number n that a definition gives, and at most this
pub record AtMost (most n r : ℕ) : Type 0 where
  pub is : r ≡ n
  pub high : r ≤ most
