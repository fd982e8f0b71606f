-- Lines 16 to 20 of a run, each from the ones before it.
use Rattle.std.specs.Prelude.{Option, ℕ}
use Rattle.arith.specs.declared.Division.{Division}
use mathlib.Core.Path.{◌≡◌}
use lib.IntN.{ℤ}
use Rattle.records.specs.declared.Run.{Run}
use Rattle.values.specs.declared.Diameters.{Diameters}
use Rattle.metering.specs.declared.Metering.{Metering}
use Rattle.stack.specs.declared.Stack.{Stack}
use Rattle.sampling.specs.declared.Sampling.{Sampling}
use Rattle.sampling.specs.Sampling.{nozzle_area, drawn_gas, isokinetic, catch, concentration, sampling}

pub is_sampling : (r : Run) (m : Metering) (s : Stack) (nozzle : Option Diameters) {area drawn grains : Option ℕ} {percent : Option Division} {caught : ℤ} →
    area ≡ nozzle_area nozzle →
    drawn ≡ drawn_gas m.dry m.vapor s.pressure s.temperature →
    caught ≡ catch r.weighings r.header.counts.weighings r.header.acetone →
    percent ≡ isokinetic drawn s.velocity area m.time →
    grains ≡ concentration caught m.dry →
    ◌≡◌ {A = Sampling} (record { area = area; drawn = drawn; isokinetic = percent; catch = caught; concentration = grains }) (sampling r m s nozzle)
unfolding sampling
is_sampling r m s nozzle e16 e17 e19 e18 e20 = rw (e20, e18, e19, e17, e16)
