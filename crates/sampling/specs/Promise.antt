-- What lines 16 to 20 ask of a run's weighings, and the ranges in which they lie.
use Rattle.std.specs.Prelude.{ℕ, ◌≤◌, ◌<◌, List, ◌≡◌, ℤ, pos, negsuc, get_or}
use Rattle.readings.specs.Ranges.{greatest_weighing_count}
use Rattle.records.specs.declared.Weighing.{Weighing}
use Rattle.records.specs.Records.{no_weighing}
use Rattle.records.specs.InRange.{WeighingOk}
use Rattle.values.specs.Promise.{Is, Between, rounded_ratio}
use Rattle.sampling.specs.declared.Sampling.{Sampling}
use Rattle.sampling.specs.declared.WeighingSums.{WeighingSums}
use Rattle.sampling.specs.Sampling.{final_weights, tares}

-- the first n weighings are in range
pub record WeighingsOk (weighings : List Weighing) (n : ℕ) : Type 0 where
  pub few : n ≤ greatest_weighing_count
  pub each : (i : ℕ) → i < n → WeighingOk (get_or weighings i no_weighing)

-- what one pass over the weighings gives
pub record AreWeighingSums (weighings : List Weighing) (n : ℕ) (r : WeighingSums) : Type 0 where
  pub finals : Is 0 32000000 (final_weights weighings n) r.finals
  pub tares : Is 0 32000000 (tares weighings n) r.tares

-- a catch lies from -32,000,099 to 32,000,000
pub record CatchOk (z : ℤ) : Type 0 where
  pub most : (n : ℕ) → z ≡ pos n → n ≤ 32000000
  pub least : (n : ℕ) → z ≡ negsuc n → n < 32000099

-- r is the catch z that the definition gives, in its range
pub record IsCatch (z r : ℤ) : Type 0 where
  pub is : r ≡ z
  pub range : CatchOk r

-- lines 16 to 20 in their ranges
pub record SamplingOk (p : Sampling) : Type 0 where
  pub area : Between 5454 545417 p.area
  pub drawn : Between 0 19675261 p.drawn
  pub isokinetic : Between 0 2164495159515952 (rounded_ratio p.isokinetic)
  pub catch : CatchOk p.catch
  pub concentration : Between 0 4937600000000 p.concentration
