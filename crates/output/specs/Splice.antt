-- A buffer after a write: the bytes at their place, and every other byte as it was.
use Rattle.std.specs.Prelude.{ℕ, ◌+◌, List, ◌++◌, length, take, drop}

-- old, with the bytes from `at` on
unfoldable pub spliced : List ℕ → ℕ → List ℕ → List ℕ
spliced old at bytes = take at old ++ (bytes ++ drop (at + length bytes) old)
