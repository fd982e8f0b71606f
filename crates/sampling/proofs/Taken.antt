-- The first n weighings as a slice of their own: they are in range where the array's are, and give the same catch.
use Rattle.std.proofs.Common.{◌≡◌, ℕ, ◌≤◌, List, length, take}
use Rattle.records.specs.declared.Acetone.{Acetone}
use Rattle.records.specs.declared.Weighing.{Weighing}
use Rattle.records.specs.Records.{no_weighing}
use Rattle.records.specs.InRange.{WeighingOk}
use Rattle.values.proofs.Taken.{length_taken, each_taken, sum_taken}
use Rattle.sampling.specs.Promise.{WeighingsOk}
use Rattle.sampling.specs.Sampling.{final_weights, tares, catch}

module _ (weighings : List Weighing) (n : ℕ) (whole : n ≤ length weighings) where
  pub weighings_taken : WeighingsOk weighings n → WeighingsOk (take n weighings) (length (take n weighings))
  weighings_taken ok =
      record { few = rw (length_taken no_weighing weighings n whole) ok.few; each = each_taken no_weighing weighings n whole WeighingOk ok.each }

  pub catch_taken : (a : Acetone) → catch (take n weighings) (length (take n weighings)) a ≡ catch weighings n a
  unfolding catch final_weights tares
  catch_taken a =
      rw (sum_taken no_weighing weighings n whole (λ w. w.second), sum_taken no_weighing weighings n whole (λ w. w.tare))
