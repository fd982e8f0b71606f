-- 98 findings are reached: a run in range without certificates, whose every point, segment and weighing breaks its rule.
use Rattle.std.specs.Prelude.{None}
use mathlib.Core.Path.{◌≡◌, refl}
use lib.IntN.{pos}
use lib.ListN.{length, replicate, get_or-replicate}
use Rattle.readings.specs.declared.headers.Version.{Version}
use Rattle.readings.specs.Ranges.{within, signed_within, least_run_number, least_barometer, rectangular_shape, least_side, least_blank_volume, least_acetone_density, greatest_point_count, greatest_segment_count, greatest_weighing_count, least_seconds, filter_kind, no_letter}
use Rattle.grids.specs.Grids.{next_of, next_grid}
use Rattle.records.specs.declared.Identity.{Identity}
use Rattle.records.specs.declared.Point.{Point}
use Rattle.records.specs.declared.Segment.{Segment}
use Rattle.records.specs.declared.Weighing.{Weighing}
use Rattle.records.specs.declared.Run.{Run}
use Rattle.records.specs.Records.{no_point, no_segment, no_weighing, sum_to}
use Rattle.records.specs.InRange.{RunOk}
use Rattle.arith.specs.Rounding.{round_div}
use Rattle.values.specs.Promise.{unless_zero}
use Rattle.metering.specs.Metering.{time, metered_volume, allowance, leak_loss, leak_losses, corrected_volume, dry_volume, moisture, metering}
use Rattle.stack.specs.Stack.{wet_weight, density_root, velocity, stack}
use Rattle.sampling.specs.Sampling.{drawn_gas, isokinetic, deduction, final_weights, tares, catch, sampling}
use Rattle.lines.specs.Sheet.{lines}
use Rattle.choosing.specs.declared.Chosen.{Chosen}
use Rattle.grounds.specs.Comparing.{holds, apart}
use Rattle.factors.specs.Factor.{factor_of, coefficient_of, diameters_of}
use Rattle.grounds.specs.Grounds.{broken}
use Rattle.diameters.specs.Diameters.{diameter, half_diameter}
use Rattle.steps.specs.Steps.{no_figure}
use Rattle.site.specs.Site.{undisturbed, minimum_disturbed, minimum_points, next_allowed}
use Rattle.conditions.specs.Conditions.{missing, moved, uneven, short, leaking, line_against, ratio_against, steady_limit, unsteady}
use Rattle.classes.specs.Classes.{places_of}
use Rattle.rules.specs.Rules.{table, ground_of}
use Rattle.findings.specs.Listing.{part_of, of_kind, beside_of, broken_at, rule_findings, findings_to, findings, lines_for, findings_for, most_findings}

point : Point
point = record { seconds = least_seconds; head = 0; orifice = 0; stack = pos 0; inlet = pos 0; outlet = pos 0 }

segment : Segment
segment = record { seconds = 4; leak = 1 }

-- a filter that lost weight, and whose two final weights are 0.6 mg apart
filter : Weighing
filter = record { kind = filter_kind; tare = 7; first = 0; second = 6 }

someone : Identity
someone = record { maker = record { first = 65; second = 65; third = 65 }; serial = 1; letter = no_letter }

-- a small rectangle close to two disturbances, no gas metered, as many points of a second each as a run can have
full_run : Run
full_run =
    record {
      header =
          record {
            number = least_run_number;
            day = 0;
            meter = someone;
            pitot = someone;
            nozzle = someone;
            pb = least_barometer;
            pg = pos 0;
            co2 = 0;
            o2 = 0;
            first = 0;
            last = 0;
            water = 0;
            site = record { shape = rectangular_shape; first = least_side; second = least_side; next = 0; last = 0 };
            acetone = record { residue = 0; blank = least_blank_volume; rinse = 0; density = least_acetone_density };
            counts = record { points = greatest_point_count; segments = greatest_segment_count; weighings = greatest_weighing_count };
          };
      points = replicate greatest_point_count point;
      segments = replicate greatest_segment_count segment;
      weighings = replicate greatest_weighing_count filter;
    }

no_certificates : Chosen
no_certificates = record { before = None; after = None; pitot = None; nozzle = None }

full_in_range : RunOk full_run
unfolding full_run point segment filter within signed_within sum_to
full_in_range =
    record {
      header =
          record {
            number = refl;
            pb = refl;
            pg = refl;
            co2 = refl;
            o2 = refl;
            first = refl;
            last = refl;
            water = refl;
            site = record { shape = refl; first = refl; second = refl };
            acetone = record { blank = refl; rinse = refl; density = refl };
            points = refl;
            segments = refl;
            weighings = refl;
          };
      points = λ i inside.
          rw (get_or-replicate greatest_point_count i point no_point inside)
          (record { seconds = refl; head = refl; orifice = refl; stack = refl; inlet = refl; outlet = refl });
      segments = λ i inside.
          rw (get_or-replicate greatest_segment_count i segment no_segment inside) (record { seconds = refl; leak = refl });
      weighings = λ i inside.
          rw (get_or-replicate greatest_weighing_count i filter no_weighing inside)
          (record { kind = refl; tare = refl; first = refl; second = refl });
      total = refl;
      balanced = refl;
    }

full_findings : (v : Version) → length (findings_for v no_figure full_run no_certificates) ≡ most_findings
unfolding full_run point segment filter no_certificates findings_for lines_for findings findings_to rule_findings broken_at broken part_of beside_of table ground_of places_of missing moved uneven diameter half_diameter undisturbed no_figure minimum_disturbed minimum_points next_of next_grid next_allowed short leaking line_against ratio_against steady_limit unsteady of_kind holds apart factor_of coefficient_of diameters_of lines metering stack sampling time metered_volume allowance leak_loss leak_losses corrected_volume dry_volume moisture wet_weight density_root velocity drawn_gas isokinetic final_weights tares catch deduction round_div unless_zero sum_to
full_findings v = refl

-- Some run in range has 98, whatever the job's version
pub reached : (r : Run) × (ch : Chosen) × (RunOk r × ((v : Version) → length (findings_for v no_figure r ch) ≡ most_findings))
reached = (full_run, no_certificates, (full_in_range, full_findings))
