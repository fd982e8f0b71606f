-- Every number that is shown fits the i64 in which it is handed over: what each row of the table shows, and so what any rule does of any run.
use Prim.Native.Nat.{ℕ, ◌≤◌, ◌<◌}
use mathlib.Core.Path.{◌≡◌, refl}
use mathlib.Core.Bool.{Bool, true, false, cond}
use borrow.Author.Tests.{ltb-true}
use lib.Dec.{ltb, eqb, lit<}
use Rattle.readings.specs.declared.headers.Version.{Version}
use Rattle.readings.specs.Ranges.{greatest_point_count, greatest_total_seconds}
use Rattle.readings.proofs.Ranges.{both_left, within_greatest}
use Rattle.records.specs.declared.Run.{Run}
use Rattle.records.specs.Records.{point_of, segment_of, weighing_of}
use Rattle.records.specs.InRange.{RunOk, SiteOk}
use Rattle.sampling.specs.Promise.{CatchOk}
use Rattle.lines.specs.Promise.{RunWithValues}
use Rattle.choosing.specs.declared.Chosen.{Chosen}
use Rattle.factors.specs.Factor.{factor_of, coefficient_of, diameters_of}
use Rattle.factors.specs.InRange.{ChosenOk}
use Rattle.factors.proofs.Values.{chosen_in_range, factor_range, coefficient_range, diameters_range}
use Rattle.steps.specs.declared.Figure.{Figure}
use Rattle.grounds.specs.declared.Ground.TheVariants.{Silent}
use Rattle.site.specs.Site.{minimum_points}
use Rattle.conditions.specs.declared.Part.{Part}
use Rattle.conditions.specs.declared.Part.TheVariants.{Whole, OnePoint, OneSegment, OneWeighing}
use Rattle.classes.specs.Classes.{places_of}
use Rattle.rules.specs.declared.Beside.{Beside}
use Rattle.rules.specs.Rules.{table, ground_of}
use Rattle.findings.specs.Listing.{part_of, beside_of, lines_for}
use Rattle.findings.specs.Seeking.{index_of, speaks_of, ground_at}
use Rattle.explaining.specs.Explaining.{ground_for}
use Rattle.opening.specs.Opening.{version_of}
use Rattle.job.specs.Places.{run_of}
use Rattle.job.proofs.ClearJobs.{clear_run, clear_certificate}
use Rattle.reduction.specs.Reducing.{chosen_in}
use Rattle.demands.specs.FigureFile.{figure_in}
use Rattle.demands.proofs.GoodParts.{good_job}
use Rattle.reviewing.specs.Numbers.{NumbersFit}
use Rattle.reviewing.proofs.Rows.{EachRow, end, ◌then◌, any_rule}
use Rattle.reviewing.proofs.FitsShown.{ShownFits, silent_fits}
use Rattle.reviewing.proofs.FitsGrounds.{PartOk, RatioFits, missing_fits, moved_fits, uneven_fits, narrow_fits, disturbed_fits, wrong_points_fits, short_fits, leaking_fits, line_fits, ratio_fits, unsteady_fits, lacking_fits, negative_fits}
use Rattle.reviewing.proofs.FitsLines.{time_few, percent_fits, catch_in_range}
use Rattle.reviewing.proofs.FitsPoints.{most_points, least_few}

-- The table, of a part in range and beside what is in range

record BesideOk (b : Beside) : Type 0 where
  chosen : ChosenOk b.chosen
  site : SiteOk b.site
  points : b.counts.points ≤ greatest_point_count
  least : b.least ≤ most_points
  time : b.lines.metering.time ≤ greatest_total_seconds
  percent : RatioFits b.lines.sampling.isokinetic
  catch : CatchOk b.lines.sampling.catch

table_fits : (part : Part) (b : Beside) (n : ℕ) → PartOk part → BesideOk b → EachRow ShownFits n (table part b)
unfolding table
table_fits part b n own ok =
    (λ e. missing_fits _)
    then (λ e. missing_fits _)
    then (λ e. missing_fits _)
    then (λ e. missing_fits _)
    then (λ e. moved_fits _ _ ok.chosen.before ok.chosen.after)
    then (λ e. uneven_fits _ ok.chosen.nozzle)
    then (λ e. narrow_fits _ ok.site)
    then (λ e. disturbed_fits _ ok.site)
    then (λ e. wrong_points_fits _ _ _ ok.least ok.points)
    then (λ e. short_fits part)
    then (λ e. leaking_fits _ _ part ok.time own)
    then (λ e. line_fits _)
    then (λ e. line_fits _)
    then (λ e. ratio_fits _ _ _ ok.percent (lit< tt))
    then (λ e. ratio_fits _ _ _ ok.percent (lit< tt))
    then (λ e. unsteady_fits part own)
    then (λ e. lacking_fits _)
    then (λ e. lacking_fits _)
    then (λ e. negative_fits _ ok.catch)
    then end

-- A run in range, with certificates in range

module _ (r : Run) (run : RunOk r) where
  -- what a rule looks at, at any of its places
  part_ok : (rule i : ℕ) → i < places_of r.header.counts rule → PartOk (part_of r rule i)
  unfolding places_of part_of
  part_ok rule i = go (eqb rule 10) (eqb rule 11) (eqb rule 17)
    where
      go : (ten eleven seventeen : Bool) → i < cond ten r.header.counts.points (cond eleven r.header.counts.segments (cond seventeen r.header.counts.weighings 1)) → PartOk (cond ten (OnePoint (point_of r i)) (cond eleven (OneSegment (segment_of r i)) (cond seventeen (OneWeighing (weighing_of r i)) Whole)))
      go true eleven seventeen inside = tt
      go false true seventeen inside = run.segments i inside
      go false false true inside = run.weighings i inside
      go false false false inside = tt

  module _ (v : Version) (fig : Figure) (ch : Chosen) (chosen : ChosenOk ch) (few : minimum_points fig r.header.site ≤ most_points) where
    -- what the rules may see beside it
    beside_ok : BesideOk (beside_of fig r ch (lines_for v r ch))
    unfolding beside_of lines_for
    beside_ok =
        let ok : RunWithValues r (factor_of v ch) (coefficient_of ch) (diameters_of ch) =
        record { run = run; factor = factor_range v ch chosen; coefficient = coefficient_range ch chosen; diameters = diameters_range ch chosen } in
        record {
          chosen = chosen;
          site = run.header.site;
          points = within_greatest _ _ _ run.header.points;
          least = few;
          time = time_few r _ _ _ ok;
          percent = percent_fits r _ _ _ ok;
          catch = catch_in_range r _ _ _ ok;
        }

    -- what any rule shows at any place
    ground_fits : (rule place : ℕ) → ShownFits (ground_for v fig r ch rule place)
    unfolding ground_for ground_at ground_of
    ground_fits rule place = go (speaks_of r.header.counts rule place) refl
      where
        go : (b : Bool) → speaks_of r.header.counts rule place ≡ b → ShownFits (cond b (ground_of (part_of r rule (index_of place)) (beside_of fig r ch (lines_for v r ch)) rule) Silent)
        go true e =
            let inside = ltb-true _ _ (both_left (ltb (index_of place) (places_of r.header.counts rule)) _ e) in
            any_rule ShownFits silent_fits rule (table_fits _ _ rule (part_ok rule (index_of place) inside) beside_ok)
        go false e = silent_fits

-- Of every good job, by a good figure or none. The two distances of rule 8 have no range of their own: one is shown only where it makes the
-- smaller of two numbers
pub numbers_fit : NumbersFit
unfolding chosen_in
numbers_fit l s k rule place lent good inside =
    let clear = good_job s good in
    ground_fits (run_of s k) (clear_run s clear k inside) (version_of s) (figure_in l) (chosen_in s k)
    (chosen_in_range _ _ _ (record { each = clear_certificate s clear }))
    (least_few l lent (run_of s k).header.site)
    rule place
