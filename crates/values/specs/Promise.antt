-- The shapes of a line's promise: which number it is, and in what range.
use Rattle.std.specs.Prelude.{ℕ, ◌≤◌, ◌≡◌, Bool, true, false, eqb, Option, Some, None}
use Rattle.arith.specs.declared.Division.{Division}
use Rattle.readings.specs.Ranges.{least_nozzle_diameter, greatest_nozzle_diameter}
use Rattle.values.specs.declared.Diameters.{Diameters}

-- r is the number n that a definition gives, from least to greatest
pub record Is (least greatest n r : ℕ) : Type 0 where
  pub is : r ≡ n
  pub low : least ≤ r
  pub high : r ≤ greatest

-- a value that, where it is known, lies from least to greatest
pub record Between (least greatest : ℕ) (v : Option ℕ) : Type 0 where
  pub known : (n : ℕ) → v ≡ Some n → (least ≤ n) × (n ≤ greatest)

-- r is the value v that a definition gives, in its range
pub record IsValue (least greatest : ℕ) (v r : Option ℕ) : Type 0 where
  pub is : r ≡ v
  pub range : Between least greatest r

-- a ratio's line as it is written, rounded
abbrev pub rounded_ratio : Option Division → Option ℕ
rounded_ratio (Some n) = Some n.rounded
rounded_ratio None = None

-- r is the ratio v that a definition gives, whose line is in its range
pub record IsRatio (least greatest : ℕ) (v r : Option Division) : Type 0 where
  pub is : r ≡ v
  pub range : Between least greatest (rounded_ratio r)

-- missing where it is true, and otherwise v
abbrev pub pick_value : Bool → ℕ → Option ℕ
pick_value true v = None
pick_value false v = Some v

-- missing where the number d is 0, and otherwise v
unfoldable pub unless_zero : ℕ → ℕ → Option ℕ
unless_zero d v = pick_value (eqb d 0) v

-- a nozzle's diameters, where they are measured, are in range
pub record DiametersOk (d : Option Diameters) : Type 0 where
  pub measured : (n : Diameters) → d ≡ Some n → ((least_nozzle_diameter ≤ n.first) × (n.first ≤ greatest_nozzle_diameter)) × ((least_nozzle_diameter ≤ n.second) × (n.second ≤ greatest_nozzle_diameter)) × ((least_nozzle_diameter ≤ n.third) × (n.third ≤ greatest_nozzle_diameter))
