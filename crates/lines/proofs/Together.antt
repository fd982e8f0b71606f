-- All twenty lines of a run, each group from the ones before it.
use Rattle.std.specs.Prelude.{Option, ℕ}
use mathlib.Core.Path.{◌≡◌}
use lib.IntN.{ℤ}
use Rattle.records.specs.declared.Run.{Run}
use Rattle.values.specs.declared.Diameters.{Diameters}
use Rattle.metering.specs.declared.Metering.{Metering}
use Rattle.metering.specs.Metering.{metering}
use Rattle.stack.specs.declared.Stack.{Stack}
use Rattle.stack.specs.Stack.{stack}
use Rattle.sampling.specs.declared.Sampling.{Sampling}
use Rattle.sampling.specs.Sampling.{sampling}
use Rattle.lines.specs.declared.Lines.{Lines}
use Rattle.lines.specs.Sheet.{lines}

pub is_lines : (r : Run) (y cp : Option ℕ) (nozzle : Option Diameters) {m : Metering} {s : Stack} {p : Sampling} {pg : ℤ} →
    pg ≡ r.header.pg →
    m ≡ metering r y →
    s ≡ stack r.header.co2 r.header.o2 m.moisture r.header.pb pg r.points r.header.counts.points cp →
    p ≡ sampling r m s nozzle →
    ◌≡◌ {A = Lines} (record { metering = m; stack = s; sampling = p }) (lines r y cp nozzle)
unfolding lines
is_lines r y cp nozzle eg em es ep = rw (ep, es, em, eg)
