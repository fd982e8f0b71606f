-- A certificate with another letter never reaches a run: what is chosen is of the kind, maker, serial and letter that the run names.
use Prim.Native.Nat.{ℕ}
use mathlib.Core.Path.{ap}
use mathlib.Core.Bool.{Bool, true, false}
use mathlib.Core.List.{List}
use Rattle.readings.specs.Ranges.{meter, pitot, nozzle}
use Rattle.records.specs.declared.Identity.{Identity}
use Rattle.records.specs.declared.Certificate.{Certificate}
use Rattle.choosing.specs.Choosing.{chosen, chosen_for}
use Rattle.choosing.proofs.Choosing.{chosen_found}
use Rattle.opening.specs.Opening.{certificate_count_of}
use Rattle.heads.specs.Values.{certificate_of}
use Rattle.job.specs.Places.{run_of}
use Rattle.reduction.specs.Reducing.{chosen_in}
use Rattle.demands.specs.OwnLetter.{Own, OwnCertificates}

own : (after : Bool) (kind : ℕ) (id : Identity) (day : ℕ) (f : ℕ → Certificate) (n : ℕ) → Own kind id (chosen after kind id day f n)
own after kind id day f n c found =
    let is = (chosen_found after kind id day f n c found).eligible.is in
    record {
      kind = is.kind;
      maker = ap (λ (i : Identity). i.maker) is.identity;
      serial = ap (λ (i : Identity). i.serial) is.identity;
      letter = ap (λ (i : Identity). i.letter) is.identity;
    }

pub own_certificates : (s : List ℕ) (k : ℕ) → OwnCertificates s k
unfolding chosen_in chosen_for
own_certificates s k =
    let f = certificate_of s in
    let n = certificate_count_of s in
    let h = (run_of s k).header in
    record {
      before = own false meter h.meter h.day f n;
      after = own true meter h.meter h.day f n;
      pitot = own false pitot h.pitot h.day f n;
      nozzle = own false nozzle h.nozzle h.day f n;
    }
