-- The ranges of what certificates give: certificates in range give a factor, a coefficient and diameters in range.
use Rattle.std.specs.Prelude.{Option, Some, None}
use Prim.Native.Nat.{ℕ, ◌≤◌, min}
use mathlib.Core.Path.{◌≡◌, refl}
use mathlib.Core.Bool.{Bool, true, false, cond}
use native.Mathlib.Omega.{arith}
use Rattle.readings.specs.Ranges.{within, least_factor, greatest_factor, least_coefficient, greatest_coefficient}
use Rattle.readings.proofs.Ranges.{within_least, within_greatest}
use Rattle.readings.specs.declared.headers.Version.{Version}
use Rattle.readings.specs.declared.headers.Version.TheVariants.{One, Two}
use Rattle.records.specs.declared.Certificate.{Certificate}
use Rattle.records.specs.declared.Identity.{Identity}
use Rattle.records.specs.declared.RunHeader.{RunHeader}
use Rattle.records.specs.InRange.{NozzleOk, CertificateOk}
use Rattle.values.specs.Promise.{Between, DiametersOk}
use Rattle.values.proofs.Promise.{missing_between, known_between}
use Rattle.choosing.specs.declared.Chosen.{Chosen}
use Rattle.choosing.specs.Choosing.{chosen, chosen_for, Nearest}
use Rattle.grounds.specs.Comparing.{holds}
use Rattle.factors.specs.Factor.{factor_moved, lower_if_moved, factor, factor_from, factor_of, coefficient_from, coefficient_of, diameters_from, diameters_of}
use Rattle.factors.specs.InRange.{CertificatesOk, ChosenOk}
use Rattle.choosing.proofs.Choosing.{chosen_found}

-- a reading in range, from least to greatest
abbrev Within : ℕ → ℕ → ℕ → Type 0
Within least greatest v = (least ≤ v) × (v ≤ greatest)

in_range : (least greatest v : ℕ) → within least greatest v ≡ true → Within least greatest v
in_range least greatest v e = (within_least least greatest v e, within_greatest least greatest v e)

between : {least greatest v : ℕ} → Within least greatest v → Between least greatest (Some v)
between (low, high) = known_between low high

-- What is found is in range, of the kind that was looked for
found_ok : (after : Bool) (kind : ℕ) (identity : Identity) (day : ℕ) (f : ℕ → Certificate) (n : ℕ) → CertificatesOk f n → (c : Certificate) → chosen after kind identity day f n ≡ Some c → (c.kind ≡ kind) × CertificateOk c
found_ok after kind identity day f n ok c e =
    let best : Nearest after kind identity day f n c = chosen_found after kind identity day f n c e in
    (best.eligible.is.kind, rw best.there at (ok.each best.index best.inside))

pub chosen_in_range : (f : ℕ → Certificate) (n : ℕ) (h : RunHeader) → CertificatesOk f n → ChosenOk (chosen_for f n h)
unfolding chosen_for
chosen_in_range f n h ok =
    record {
      before = λ c e. let (kind, fine) = found_ok _ _ _ _ f n ok c e in fine.factor kind;
      after = λ c e. let (kind, fine) = found_ok _ _ _ _ f n ok c e in fine.factor kind;
      pitot = λ c e. let (kind, fine) = found_ok _ _ _ _ f n ok c e in fine.coefficient kind;
      nozzle = λ c e. let (kind, fine) = found_ok _ _ _ _ f n ok c e in fine.diameters kind;
    }

-- Y is one of the two factors
lower_within : (least greatest before after : ℕ) → Within least greatest before → Within least greatest after → Within least greatest (lower_if_moved before after)
unfolding lower_if_moved
lower_within least greatest before after (b, b') (a, a') = go (holds (factor_moved before after))
  where
    go : (t : Bool) → (least ≤ cond t (min before after) before) × (cond t (min before after) before ≤ greatest)
    go true = (omega arith, omega arith)
    go false = (b, b')

factor_within : (v : Version) (least greatest before after : ℕ) → Within least greatest before → Within least greatest after → Within least greatest (factor v before after)
unfolding factor
factor_within One least greatest before after own other = lower_within least greatest before after own other
factor_within Two least greatest before after own other = own

factor_from_lem : (v : Version) (b a : Option Certificate) → ((c : Certificate) → b ≡ Some c → within least_factor greatest_factor c.first ≡ true) → ((c : Certificate) → a ≡ Some c → within least_factor greatest_factor c.first ≡ true) → Between least_factor greatest_factor (factor_from v b a)
factor_from_lem v None a hb ha = missing_between
factor_from_lem v (Some b) None hb ha = between (in_range _ _ _ (hb b refl))
factor_from_lem v (Some b) (Some a) hb ha =
    between (factor_within v _ _ _ _ (in_range _ _ _ (hb b refl)) (in_range _ _ _ (ha a refl)))

-- Y lies in the range of factors
pub factor_range : (v : Version) (ch : Chosen) → ChosenOk ch → Between least_factor greatest_factor (factor_of v ch)
unfolding factor_of
factor_range v ch ok = factor_from_lem v ch.before ch.after ok.before ok.after

coefficient_from_lem : (least greatest : ℕ) (l : Option Certificate) → ((c : Certificate) → l ≡ Some c → within least greatest c.first ≡ true) → Between least greatest (coefficient_from l)
coefficient_from_lem least greatest None h = missing_between
coefficient_from_lem least greatest (Some c) h = between (in_range _ _ _ (h c refl))

-- Cp lies in the range of coefficients
pub coefficient_range : (ch : Chosen) → ChosenOk ch → Between least_coefficient greatest_coefficient (coefficient_of ch)
unfolding coefficient_of
coefficient_range ch ok = coefficient_from_lem least_coefficient greatest_coefficient ch.pitot ok.pitot

measured : (l : Option Certificate) → ((c : Certificate) → l ≡ Some c → NozzleOk c) → DiametersOk (diameters_from l)
measured None h = record { measured = λ n e. cc }
measured (Some c) h =
    record {
      measured = λ n e.
          let same : record { first = c.first; second = c.second; third = c.third } ≡ n = cc in
          let ok = h c refl in
          rw (← same) (in_range _ _ _ ok.first, in_range _ _ _ ok.second, in_range _ _ _ ok.third);
    }

-- The diameters lie in the range of diameters
pub diameters_range : (ch : Chosen) → ChosenOk ch → DiametersOk (diameters_of ch)
unfolding diameters_of
diameters_range ch ok = measured ch.nozzle ok.nozzle
