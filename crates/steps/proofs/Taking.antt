-- The step that a distance takes, for the loop that tries each in turn.
use Prim.Native.Nat.{ℕ, ◌+◌}
use mathlib.Core.Path.{◌≡◌, refl}
use mathlib.Core.Bool.{Bool, true, false}
use mathlib.Core.List.{List}
use native.Mathlib.Numerals.{add-one}
use Rattle.steps.specs.declared.Step.{Step}
use Rattle.steps.specs.Steps.{step_of, last_reached}

module _ (is_reached : Step → Bool) (l : List Step) where
  -- before any is tried: the first
  pub taken_none : step_of l 0 ≡ last_reached is_reached l 0
  unfolding last_reached
  taken_none = refl

  -- one that is reached is taken in place of those before it ..
  pub taken_reached : (i : ℕ) → is_reached (step_of l i) ≡ true → step_of l i ≡ last_reached is_reached l (i + 1)
  unfolding last_reached
  taken_reached i e = rw (add-one, e)

  -- .. and one that is not changes nothing
  pub taken_passed : (i : ℕ) {step : Step} → step ≡ last_reached is_reached l i → is_reached (step_of l i) ≡ false → step ≡ last_reached is_reached l (i + 1)
  unfolding last_reached
  taken_passed i e f = rw (add-one, f) e
