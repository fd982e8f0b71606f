-- What the chosen certificates give the lines; of the factor Y, docs/RULES.md, Choosing certificates.
use Rattle.std.specs.Prelude.{ℕ, ◌*◌, min, cond, Option, Some, None}
use Rattle.records.specs.declared.Certificate.{Certificate}
use Rattle.readings.specs.declared.headers.Version.{Version}
use Rattle.readings.specs.declared.headers.Version.TheVariants.{One, Two}
use Rattle.values.specs.declared.Diameters.{Diameters}
use Rattle.choosing.specs.declared.Chosen.{Chosen}
use Rattle.grounds.specs.declared.comparison.Way.TheVariants.{Above}
use Rattle.grounds.specs.declared.comparison.Comparison.{Comparison}
use Rattle.grounds.specs.Comparing.{holds, compare, apart}

-- the after factor differs from the before factor by more than 5 percent of the before factor
unfoldable pub factor_moved : ℕ → ℕ → Comparison
factor_moved before after = compare (20 * apart before after) Above before

-- the lower of the two where the factor moved, otherwise the before factor
unfoldable pub lower_if_moved : ℕ → ℕ → ℕ
lower_if_moved before after = cond (holds (factor_moved before after)) (min before after) before

-- Y from a before factor and an after factor, by the job's version: in version 2 always the before factor
unfoldable pub factor : Version → ℕ → ℕ → ℕ
factor One before after = lower_if_moved before after
factor Two before after = before

-- Y from what was found
abbrev pub factor_from : Version → Option Certificate → Option Certificate → Option ℕ
factor_from v None after = None
factor_from v (Some b) None = Some b.first
factor_from v (Some b) (Some a) = Some (factor v b.first a.first)

-- The factor Y: missing without a before certificate
unfoldable pub factor_of : Version → Chosen → Option ℕ
factor_of v ch = factor_from v ch.before ch.after

-- Cp from what was found
abbrev pub coefficient_from : Option Certificate → Option ℕ
coefficient_from None = None
coefficient_from (Some c) = Some c.first

-- The coefficient Cp: missing without a pitot certificate
unfoldable pub coefficient_of : Chosen → Option ℕ
coefficient_of ch = coefficient_from ch.pitot

-- the diameters from what was found
abbrev pub diameters_from : Option Certificate → Option Diameters
diameters_from None = None
diameters_from (Some c) = Some (record { first = c.first; second = c.second; third = c.third })

-- The nozzle's three diameters: unknown without a nozzle certificate
unfoldable pub diameters_of : Chosen → Option Diameters
diameters_of ch = diameters_from ch.nozzle
