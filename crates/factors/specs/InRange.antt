-- When a job's certificates and what was chosen of them are in range.
use Rattle.std.specs.Prelude.{ℕ, ◌<◌, ◌≡◌, true, Some}
use Rattle.readings.specs.Ranges.{meter_factor, coefficient}
use Rattle.records.specs.declared.Certificate.{Certificate}
use Rattle.records.specs.InRange.{NozzleOk, CertificateOk}
use Rattle.choosing.specs.declared.Chosen.{Chosen}

-- the first n certificates of a job
pub record CertificatesOk (f : ℕ → Certificate) (n : ℕ) : Type 0 where
  pub each : (i : ℕ) → i < n → CertificateOk (f i)

-- what was chosen for a run
pub record ChosenOk (ch : Chosen) : Type 0 where
  pub before : (c : Certificate) → ch.before ≡ Some c → meter_factor c.first ≡ true
  pub after : (c : Certificate) → ch.after ≡ Some c → meter_factor c.first ≡ true
  pub pitot : (c : Certificate) → ch.pitot ≡ Some c → coefficient c.first ≡ true
  pub nozzle : (c : Certificate) → ch.nozzle ≡ Some c → NozzleOk c
