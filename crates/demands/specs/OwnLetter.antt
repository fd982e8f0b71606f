-- Which certificates reach a run: those of the meter, the pitot tube and the nozzle that it names, and no other's.
use Rattle.std.specs.Prelude.{Option, Some, ℕ, ◌≡◌, List}
use Rattle.readings.specs.Ranges.{meter, pitot, nozzle}
use Rattle.records.specs.declared.Identity.{Identity}
use Rattle.records.specs.declared.Certificate.{Certificate}
use Rattle.job.specs.Places.{run_of}
use Rattle.reduction.specs.Reducing.{chosen_in}

-- a certificate is of that kind, and of the maker, the serial and the letter that are named
pub record Named (k : ℕ) (id : Identity) (c : Certificate) : Type 0 where
  pub kind : c.kind ≡ k
  pub maker : c.identity.maker ≡ id.maker
  pub serial : c.identity.serial ≡ id.serial
  pub letter : c.identity.letter ≡ id.letter

-- what is found, if anything, is
abbrev pub Own : ℕ → Identity → Option Certificate → Type 0
Own kind id found = (c : Certificate) → found ≡ Some c → Named kind id c

-- every certificate chosen for run k of a file is of an instrument that the run names
pub record OwnCertificates (s : List ℕ) (k : ℕ) : Type 0 where
  pub before : Own meter (run_of s k).header.meter (chosen_in s k).before
  pub after : Own meter (run_of s k).header.meter (chosen_in s k).after
  pub pitot : Own pitot (run_of s k).header.pitot (chosen_in s k).pitot
  pub nozzle : Own nozzle (run_of s k).header.nozzle (chosen_in s k).nozzle
