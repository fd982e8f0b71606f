-- Rule 17 judges a weighing by the difference of its final weights and by its net.
use Prim.Native.Nat.{ℕ, ◌+◌, ◌-◌, ◌*◌, ◌<◌}
use mathlib.Core.Path.{◌≡◌, refl, sym, ◌∙◌}
use mathlib.Core.Logic.{◌↔◌}
use native.Mathlib.Omega.{arith}
use lib.Dec.{ltb→lt, lt→ltb}
use lib.IntN.{pos, sub_ℕ}
use lib.Signed.{◌<ℤ◌}
use Rattle.arith.proofs.Differences.{either_sign}
use Rattle.readings.specs.declared.headers.Version.{Version}
use Rattle.records.specs.declared.Run.{Run}
use Rattle.records.specs.declared.Weighing.{Weighing}
use Rattle.records.specs.Records.{weighing_of}
use Rattle.choosing.specs.declared.Chosen.{Chosen}
use Rattle.grounds.specs.Grounds.{broken}
use Rattle.conditions.specs.declared.Part.TheVariants.{OneWeighing}
use Rattle.conditions.specs.Conditions.{difference, net, unsteady}
use Rattle.conditions.proofs.Words.{unsteady_exactly}
use Rattle.classes.specs.Classes.{places_of, place_at}
use Rattle.rules.specs.Rules.{table, ground_of}
use Rattle.steps.specs.declared.Figure.{Figure}
use Rattle.findings.specs.Listing.{part_of, beside_of, broken_at, lines_for}
use Rattle.demands.specs.Weighings.{BreaksWeighing, Unsteady, JudgedByNet}

-- a less b is below m exactly when a is below b and m together
less_below : (a b m : ℕ) → (sub_ℕ a b <ℤ pos m) ↔ (a < b + m)
less_below a b m =
    either_sign (λ z. (z <ℤ pos m) ↔ (a < b + m)) a b
    (λ some. (λ h. omega (arith, some, ltb→lt (a - b) m h.lt), λ h. record { lt = lt→ltb (a - b) m (omega (arith, some)) }))
    (λ lost. (λ h. omega (arith, lost), λ h. record { lt = tt }))

module _ (v : Version) (fig : Figure) (r : Run) (ch : Chosen) where
  -- what rule 17 goes by at its place i
  goes_by : (i : ℕ) → broken_at fig r ch (lines_for v r ch) 17 i ≡ broken (unsteady (OneWeighing (weighing_of r i)))
  unfolding part_of beside_of broken_at table ground_of
  goes_by i = refl

  unsteady_there : (place : ℕ) → BreaksWeighing v fig r ch place → Unsteady r place
  unfolding places_of place_at
  unsteady_there place b =
      let w : Weighing = weighing_of r b.index in
      let judged = (unsteady_exactly w).0 (sym (goes_by b.index) ∙ b.broken) in
      record {
        index = b.index;
        inside = b.inside;
        there = b.there;
        units = judged.0;
        percent = (less_below w.second w.tare (100 * difference w)).1 judged.1;
      }

  broken_there : (place : ℕ) → Unsteady r place → BreaksWeighing v fig r ch place
  unfolding places_of place_at
  broken_there place u =
      let w : Weighing = weighing_of r u.index in
      let above = (less_below w.second w.tare (100 * difference w)).0 u.percent in
      record {
        first = omega arith;
        last = omega arith;
        index = u.index;
        inside = u.inside;
        there = u.there;
        broken = goes_by u.index ∙ (unsteady_exactly w).1 (u.units, above);
      }

-- For every run and certificates: rule 17 goes by the difference and by the net, and by the difference alone where the net is negative
pub judged_by_net : (v : Version) (fig : Figure) (r : Run) (ch : Chosen) → JudgedByNet v fig r ch
judged_by_net v fig r ch =
    record {
      both = λ place. (unsteady_there v fig r ch place, broken_there v fig r ch place);
      negative = λ i inside below. (units i, enough i inside below);
    }
  where
    -- where a net is negative 100 times a difference is above it
    percent : (w : Weighing) → net w <ℤ pos 0 → net w <ℤ pos (100 * difference w)
    percent w below =
        (less_below w.second w.tare (100 * difference w)).1 (omega (arith, (less_below w.second w.tare 0).0 below))

    units : (i : ℕ) → BreaksWeighing v fig r ch (i + 1) → 5 < difference (weighing_of r i)
    units i b =
        let u = unsteady_there v fig r ch (i + 1) b in
        let same : u.index ≡ i = omega (arith, u.there) in
        rw same at u.units

    enough : (i : ℕ) → i < r.header.counts.weighings → net (weighing_of r i) <ℤ pos 0 → 5 < difference (weighing_of r i) → BreaksWeighing v fig r ch (i + 1)
    enough i inside below apart =
        broken_there v fig r ch (i + 1)
        (record { index = i; inside = inside; there = refl; units = apart; percent = percent (weighing_of r i) below })
