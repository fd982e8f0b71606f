-- What is left of a file from a place on.
use Prim.Native.Nat.{ℕ, ◌+◌, ◌*◌, ◌≤◌}
use mathlib.Core.Path.{◌≡◌, ◌∙◌, ap, ap₂}
use mathlib.Core.List.{List}
use native.Mathlib.Nat.{add-zero}
use native.Mathlib.Omega.{arith}
use lib.ListN.{length, get_or, drop, length-drop}
use lib.Seq.{get_or-drop}
use Rattle.fields.specs.Numbers.{u16_at}

-- as much is left from a place on as the file has behind it
pub enough : (s : List ℕ) (at size : ℕ) {t : List ℕ} → t ≡ drop at s → at + size ≤ length s → size ≤ length t
enough s at size e h = rw e (omega (arith, length-drop at s))

-- the number that it begins with
pub u16_front : (s : List ℕ) (at : ℕ) → u16_at (drop at s) 0 ≡ u16_at s at
unfolding u16_at
u16_front s at = ap₂ (λ (low high : ℕ). low + 256 * high) (get_or-drop at s 0 0 ∙ ap (λ (k : ℕ). get_or s k 0) (add-zero at)) (get_or-drop at s 1 0)
