-- An array filled from the front.
use Rattle.std.specs.Prelude.{ℕ, zero, suc, ◌-◌, List, ◌++◌, length, replicate, set}

-- f 0, .., f (n - 1), and then `none`, as many as there is room for
unfoldable pub padded : {A : Type 0} → ℕ → A → (ℕ → A) → ℕ → List A
padded size none f zero = replicate size none
padded size none f (suc n) = set (padded size none f n) n (f n)

-- a list, and then `none`, as many as there is room for
unfoldable pub filled_to : {A : Type 0} → ℕ → A → List A → List A
filled_to size none xs = xs ++ replicate (size - length xs) none
