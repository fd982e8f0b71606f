-- The twenty lines of docs/RULES.md: an equation each, by name, from the lines that it names.
use Rattle.std.specs.Prelude.{Option, Some, ℕ, ◌-◌, List, [], ◌∷◌, ℤ, get_or}
use Rattle.arith.specs.declared.Division.{Division}
use Rattle.readings.specs.declared.headers.Version.{Version}
use Rattle.records.specs.declared.Run.{Run}
use Rattle.records.specs.declared.Point.{Point}
use Rattle.values.specs.Promise.{rounded_ratio}
use Rattle.metering.specs.Metering.{time, metered_volume, corrected_volume, mean_orifice, meter_pressure, meter_temperature, dry_volume, water_vapor, moisture}
use Rattle.stack.specs.Stack.{dry_weight, wet_weight, stack_pressure, stack_temperature, mean_root, density_root, velocity}
use Rattle.sampling.specs.Sampling.{nozzle_area, drawn_gas, isokinetic, catch, concentration}
use Rattle.lines.specs.declared.Entry.{Entry}
use Rattle.lines.specs.Sheet.{always, if_known, no_entry}
use Rattle.choosing.specs.declared.Chosen.{Chosen}
use Rattle.factors.specs.Factor.{factor_of, coefficient_of, diameters_of}

-- Lines 1 to 20 of a run, from its own readings and from the certificates chosen for it, in a job of that version
unfoldable pub equations : Version → Run → Chosen → List Entry
equations v r ch =
    let points : List Point = r.points in
    let n : ℕ = r.header.counts.points in
    let l1 : ℕ = time points n in
    let l2 : ℕ = metered_volume r.header.first r.header.last in
    let l3 : ℕ = corrected_volume l1 l2 r.segments r.header.counts.segments in
    let l4 : ℕ = meter_pressure r.header.pb (mean_orifice points n) in
    let l5 : ℕ = meter_temperature points n in
    let l6 : Option ℕ = dry_volume l3 (factor_of v ch) l4 l5 in
    let l7 : ℕ = water_vapor r.header.water in
    let l8 : Option ℕ = moisture l6 l7 in
    let l9 : ℕ = dry_weight r.header.co2 r.header.o2 in
    let l10 : Option ℕ = wet_weight l9 l8 in
    let l11 : ℕ = stack_pressure r.header.pb r.header.pg in
    let l12 : ℕ = stack_temperature points n in
    let l13 : ℕ = mean_root points n in
    let l14 : Option ℕ = density_root l10 l11 l12 in
    let l15 : Option ℕ = velocity (coefficient_of ch) l13 l14 in
    let l16 : Option ℕ = nozzle_area (diameters_of ch) in
    let l17 : Option ℕ = drawn_gas l6 l7 l11 l12 in
    let l18 : Option Division = isokinetic l17 l15 l16 l1 in
    let l19 : ℤ = catch r.weighings r.header.counts.weighings r.header.acetone in
    let l20 : Option ℕ = concentration l19 l6 in
    always l1
    ∷ always l2
    ∷ always l3
    ∷ always l4
    ∷ always l5
    ∷ if_known l6
    ∷ always l7
    ∷ if_known l8
    ∷ always l9
    ∷ if_known l10
    ∷ always l11
    ∷ always l12
    ∷ always l13
    ∷ if_known l14
    ∷ if_known l15
    ∷ if_known l16
    ∷ if_known l17
    ∷ if_known (rounded_ratio l18)
    ∷ record { line = Some l19 }
    ∷ if_known l20
    ∷ []

-- the i-th of them, counted from 1
abbrev pub equation : ℕ → Version → Run → Chosen → Entry
equation i v r ch = get_or (equations v r ch) (i - 1) no_entry
