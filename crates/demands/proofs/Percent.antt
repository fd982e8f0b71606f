-- Rules 15 and 16 judge a run by line 18's quotient before it is rounded.
use Rattle.std.specs.Prelude.{Some, None}
use Prim.Native.Nat.{ℕ, ◌*◌, ◌≤◌, ◌<◌}
use mathlib.Core.Path.{◌≡◌, refl, sym, ◌∙◌, ap}
use mathlib.Core.Bool.{Bool, true, false≢true}
use mathlib.Core.Logic.{◌⊎◌, inl, inr, ◌↔◌}
use native.Mathlib.Omega.{arith}
use borrow.Author.Tests.{lt-ltb, ltb-true}
use Rattle.arith.specs.Rounding.{division}
use Rattle.grounds.specs.declared.comparison.Way.TheVariants.{Below, Above}
use Rattle.grounds.specs.Comparing.{stands_to}
use Rattle.readings.specs.declared.headers.Version.{Version}
use Rattle.readings.specs.Ranges.{least_seconds}
use Rattle.records.specs.declared.Run.{Run}
use Rattle.records.specs.InRange.{RunOk}
use Rattle.values.specs.Promise.{rounded_ratio}
use Rattle.metering.specs.Metering.{time, metering}
use Rattle.metering.proofs.Passes.{is_time}
use Rattle.metering.proofs.RunInRange.{points_ok, time_most_lem}
use Rattle.stack.specs.Stack.{stack}
use Rattle.sampling.specs.Sampling.{sampling}
use Rattle.sampling.proofs.Percent.{WorkedFrom, worked_or_not, divisor_some}
use Rattle.lines.specs.declared.Lines.{Lines}
use Rattle.lines.specs.Sheet.{lines, always, if_known}
use Rattle.choosing.specs.declared.Chosen.{Chosen}
use Rattle.factors.specs.InRange.{ChosenOk}
use Rattle.factors.proofs.Values.{diameters_range}
use Rattle.grounds.specs.Grounds.{broken}
use Rattle.conditions.specs.Conditions.{ratio_against}
use Rattle.conditions.proofs.Words.{ratio_exactly}
use Rattle.classes.specs.Classes.{places_of, place_at}
use Rattle.rules.specs.Rules.{last_rule, table, ground_of}
use Rattle.steps.specs.declared.Figure.{Figure}
use Rattle.findings.specs.Listing.{beside_of, broken_at, lines_for}
use Rattle.demands.specs.Equations.{equations, equation}
use Rattle.demands.specs.Percent.{dividend, divisor, BreaksWhole, JudgedExactly, NotJudged}

-- a rule of one place, the whole run, is broken exactly where it is broken at that place
whole : (v : Version) (fig : Figure) (r : Run) (ch : Chosen) (rule : ℕ) → 1 ≤ rule → rule ≤ last_rule → places_of r.header.counts rule ≡ 1 → place_at rule 0 ≡ 0 → BreaksWhole v fig r ch rule ↔ (broken_at fig r ch (lines_for v r ch) rule 0 ≡ true)
whole v fig r ch rule first last one place = (
  λ b. let inside = b.inside in let zero : b.index ≡ 0 = omega arith in rw zero at b.broken,
  λ e. record { first = first; last = last; index = 0; inside = omega arith; there = sym place; broken = e },
)

-- a comparison that comes out true exactly where it holds
below : (a b : ℕ) → (stands_to Below a b ≡ true) ↔ (a < b)
below a b = (ltb-true a b, lt-ltb a b)

above : (a b : ℕ) → (stands_to Above a b ≡ true) ↔ (b < a)
above a b = (ltb-true b a, lt-ltb b a)

-- exactly where the one is true the other is, and exactly where that holds
through : {P Q : Type 0} {a b : Bool} → P ↔ (a ≡ true) → a ≡ b → (b ≡ true) ↔ Q → P ↔ Q
through (to, from) same (on, back) = (λ p. on (sym same ∙ to p), λ q. from (same ∙ back q))

module _ (v : Version) (fig : Figure) (r : Run) (ch : Chosen) where
  abbrev l : Lines
  l = lines_for v r ch

  -- the lines by name are those of the equations
  at1 : equation 1 v r ch ≡ always l.metering.time
  unfolding lines_for lines metering equations
  at1 = refl

  at15 : equation 15 v r ch ≡ if_known l.stack.velocity
  unfolding lines_for lines metering stack equations
  at15 = refl

  at16 : equation 16 v r ch ≡ if_known l.sampling.area
  unfolding lines_for lines sampling equations
  at16 = refl

  at17 : equation 17 v r ch ≡ if_known l.sampling.drawn
  unfolding lines_for lines metering stack sampling equations
  at17 = refl

  at18 : equation 18 v r ch ≡ if_known (rounded_ratio l.sampling.isokinetic)
  unfolding lines_for lines metering stack sampling equations
  at18 = refl

  fifteen : BreaksWhole v fig r ch 15 ↔ (broken (ratio_against l.sampling.isokinetic Below 9000) ≡ true)
  unfolding places_of place_at beside_of broken_at table ground_of
  fifteen = whole v fig r ch 15 (omega arith) (omega arith) refl refl

  sixteen : BreaksWhole v fig r ch 16 ↔ (broken (ratio_against l.sampling.isokinetic Above 11000) ≡ true)
  unfolding places_of place_at beside_of broken_at table ground_of
  sixteen = whole v fig r ch 16 (omega arith) (omega arith) refl refl

  worked : (l.sampling.isokinetic ≡ None) ⊎ WorkedFrom l.sampling.drawn l.stack.velocity l.sampling.area l.metering.time
  unfolding lines_for lines sampling
  worked = worked_or_not _ _ _ _

  not_judged : l.sampling.isokinetic ≡ None → NotJudged v fig r ch
  unfolding broken ratio_against
  not_judged none =
      record {
        line18 = at18 ∙ ap (λ p. if_known (rounded_ratio p)) none;
        fifteen = λ b. false≢true (rw none at (fifteen.0 b));
        sixteen = λ b. false≢true (rw none at (sixteen.0 b));
      }

  judged_exactly : (w : WorkedFrom l.sampling.drawn l.stack.velocity l.sampling.area l.metering.time) → 0 < divisor w.speed w.opening l.metering.time → JudgedExactly v fig r ch
  unfolding lines_for lines sampling division
  judged_exactly w some =
      let n : ℕ = dividend w.gas in
      let d : ℕ = divisor w.speed w.opening l.metering.time in
      let is : l.sampling.isokinetic ≡ Some (division n d) = w.is in
      record {
        l1 = l.metering.time;
        l15 = w.speed;
        l16 = w.opening;
        l17 = w.gas;
        line1 = at1;
        line15 = at15 ∙ ap if_known w.is_velocity;
        line16 = at16 ∙ ap if_known w.is_area;
        line17 = at17 ∙ ap if_known w.is_drawn;
        line18 = at18 ∙ ap (λ p. if_known (rounded_ratio p)) is;
        fifteen = through fifteen (ap (λ p. broken (ratio_against p Below 9000)) is ∙ ratio_exactly Below n d 9000 some) (below n (9000 * d));
        sixteen = through sixteen (ap (λ p. broken (ratio_against p Above 11000)) is ∙ ratio_exactly Above n d 11000 some) (above n (11000 * d));
      }

-- For every run and certificates within the ranges: line 18 is absent, or both rules go by its exact quotient
pub judged_by_quotient : (v : Version) (fig : Figure) (r : Run) (ch : Chosen) → RunOk r → ChosenOk ch → NotJudged v fig r ch ⊎ JudgedExactly v fig r ch
unfolding lines_for lines metering sampling time
judged_by_quotient v fig r ch ok certificates = go (worked v fig r ch)
  where
    time_some : least_seconds ≤ time r.points r.header.counts.points
    time_some = (is_time r.points r.header.counts.points _ (points_ok r ok) (time_most_lem r ok) refl).low

    go : ((lines_for v r ch).sampling.isokinetic ≡ None) ⊎ WorkedFrom (lines_for v r ch).sampling.drawn (lines_for v r ch).stack.velocity (lines_for v r ch).sampling.area (lines_for v r ch).metering.time → NotJudged v fig r ch ⊎ JudgedExactly v fig r ch
    go (inl none) = inl (not_judged v fig r ch none)
    go (inr w) = inr (judged_exactly v fig r ch w (divisor_some (diameters_range ch certificates) w.is_area w.moving time_some))
