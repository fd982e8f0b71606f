-- Lines 1 to 8 of a run, each from the ones before it.
use Rattle.std.specs.Prelude.{Option}
use Prim.Native.Nat.{ℕ}
use mathlib.Core.Path.{◌≡◌}
use Rattle.records.specs.declared.Run.{Run}
use Rattle.metering.specs.declared.Metering.{Metering}
use Rattle.metering.specs.Metering.{time, metered_volume, corrected_volume, mean_orifice, meter_pressure, meter_temperature, dry_volume, water_vapor, moisture, metering}

pub is_metering : (r : Run) (y : Option ℕ) {t v corrected h pressure temperature vapor : ℕ} {dry wet : Option ℕ} →
    t ≡ time r.points r.header.counts.points →
    v ≡ metered_volume r.header.first r.header.last →
    corrected ≡ corrected_volume t v r.segments r.header.counts.segments →
    h ≡ mean_orifice r.points r.header.counts.points →
    pressure ≡ meter_pressure r.header.pb h →
    temperature ≡ meter_temperature r.points r.header.counts.points →
    dry ≡ dry_volume corrected y pressure temperature →
    vapor ≡ water_vapor r.header.water →
    wet ≡ moisture dry vapor →
    ◌≡◌ {A = Metering} (record { time = t; volume = v; corrected = corrected; pressure = pressure; temperature = temperature; dry = dry; vapor = vapor; moisture = wet }) (metering r y)
unfolding metering
is_metering r y e1 e2 e3 eh e4 e5 e6 e7 e8 = rw (e8, e7, e6, e5, e4, eh, e3, e2, e1)
