-- Lines 9 to 15, each from the ones before it.
use Rattle.std.specs.Prelude.{Option}
use Prim.Native.Nat.{ℕ}
use mathlib.Core.Path.{◌≡◌}
use mathlib.Core.List.{List}
use lib.IntN.{ℤ}
use Rattle.records.specs.declared.Point.{Point}
use Rattle.stack.specs.declared.Stack.{Stack}
use Rattle.stack.specs.Stack.{dry_weight, wet_weight, stack_pressure, stack_temperature, mean_root, density_root, velocity, stack}

pub is_stack : (co2 o2 : ℕ) (m : Option ℕ) (pb : ℕ) (pg : ℤ) (points : List Point) (n : ℕ) (cp : Option ℕ) {dry pressure temperature root : ℕ} {wet density speed : Option ℕ} →
    dry ≡ dry_weight co2 o2 →
    wet ≡ wet_weight dry m →
    pressure ≡ stack_pressure pb pg →
    temperature ≡ stack_temperature points n →
    root ≡ mean_root points n →
    density ≡ density_root wet pressure temperature →
    speed ≡ velocity cp root density →
    ◌≡◌ {A = Stack} (record { dry = dry; wet = wet; pressure = pressure; temperature = temperature; root = root; density = density; velocity = speed }) (stack co2 o2 m pb pg points n cp)
unfolding stack
is_stack co2 o2 m pb pg points n cp e9 e10 e11 e12 e13 e14 e15 = rw (e15, e14, e13, e12, e11, e10, e9)
