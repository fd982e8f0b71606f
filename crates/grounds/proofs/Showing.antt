-- How many conditions are shown.
use Prim.Native.Nat.{◌+◌, ◌≤◌}
use mathlib.Core.Path.{◌≡◌, refl}
use mathlib.Core.Bool.{Bool, true, false}
use mathlib.Core.List.{[], ◌∷◌}
use native.Mathlib.Omega.{arith}
use lib.ListN.{length}
use Rattle.std.specs.Int.{from_bool}
use Rattle.grounds.specs.Showing.{Condition, broken_of, ◌broken_if◌}

-- of one condition at most one
pub one_most : (b : Bool) → from_bool b ≤ 1
one_most true = omega arith
one_most false = omega arith

-- of one and of two, those that are broken
pub shown_of_one : (x : Condition) (a : Bool) → from_bool a ≡ length (broken_of ((x broken_if a) ∷ []))
unfolding broken_of
shown_of_one x true = refl
shown_of_one x false = refl

pub shown_of_two : (x y : Condition) (a b : Bool) → from_bool a + from_bool b ≡ length (broken_of ((x broken_if a) ∷ (y broken_if b) ∷ []))
unfolding broken_of
shown_of_two x y true true = refl
shown_of_two x y true false = refl
shown_of_two x y false true = refl
shown_of_two x y false false = refl
