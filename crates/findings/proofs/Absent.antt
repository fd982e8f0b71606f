-- Which lines are absent when another is absent or 0, so that rules 12 to 16 exclude one another.
use Rattle.std.specs.Prelude.{Some, None}
use mathlib.Core.Path.{◌≡◌, refl}
use Rattle.records.specs.declared.Run.{Run}
use Rattle.lines.specs.declared.Lines.{Lines}
use Rattle.metering.specs.Metering.{metering}
use Rattle.metering.proofs.Cases.{dry_zero, moisture_missing}
use Rattle.stack.specs.Stack.{stack}
use Rattle.stack.proofs.Cases.{wet_missing, density_missing, velocity_no_density}
use Rattle.sampling.specs.Sampling.{sampling}
use Rattle.sampling.proofs.Cases.{isokinetic_no_velocity, isokinetic_still}
use Rattle.lines.specs.Sheet.{lines}
use Rattle.findings.specs.Listing.{Worked}

module _ (r : Run) (l : Lines) (w : Worked r l) where
  pub no_volume : l.metering.corrected ≡ 0 → l.metering.dry ≡ None
  unfolding lines metering
  no_volume e = rw w.is (dry_zero _ _ _ (rw w.is at e))

  pub no_moisture : l.metering.dry ≡ None → l.stack.velocity ≡ None
  unfolding lines metering stack
  no_moisture e = rw w.is (velocity_no_density _ _ (density_missing _ _ (wet_missing _ (moisture_missing _ (rw w.is at e)))))

  pub no_velocity : l.stack.velocity ≡ None → l.sampling.isokinetic ≡ None
  unfolding lines sampling
  no_velocity e = rw w.is (isokinetic_no_velocity _ _ _ (rw w.is at e))

  pub no_flow : l.stack.velocity ≡ Some 0 → l.sampling.isokinetic ≡ None
  unfolding lines sampling
  no_flow e = rw w.is (isokinetic_still _ _ _ (rw w.is at e) refl)
