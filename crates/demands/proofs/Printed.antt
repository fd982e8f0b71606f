-- The worked job is answered as docs/RULES.md prints it: by computation, from its bytes to the bytes of its lines and its findings.
use mathlib.Core.Path.{refl}
use Rattle.arith.specs.Root.{grown, floor_root, nearest_root}
use Rattle.arith.specs.Rounding.{round_div, division}
use Rattle.readings.specs.Ranges.{within, signed_within}
use Rattle.grids.specs.Grids.{next_of, next_grid}
use Rattle.records.specs.Records.{same_identity, sum_to}
use Rattle.metering.specs.Metering.{time, metered_volume, allowance, leak_loss, leak_losses, corrected_volume, mean_orifice, meter_pressure, meter_temperature, dry_volume, water_vapor, moisture, metering}
use Rattle.values.specs.Promise.{unless_zero}
use Rattle.values.specs.Signed.{add_scaled}
use Rattle.sampling.specs.Sampling.{nozzle_area, drawn_gas, isokinetic, deduction, final_weights, tares, catch, concentration, sampling}
use Rattle.lines.specs.Sheet.{lines, sheet}
use Rattle.stack.specs.Stack.{dry_weight, wet_weight, stack_pressure, stack_temperature, point_root, mean_root, density_root, velocity, stack}
use Rattle.choosing.specs.Choosing.{eligible, keep, chosen, chosen_for}
use Rattle.grounds.specs.Comparing.{holds, deciding, apart}
use Rattle.factors.specs.Factor.{factor_moved, lower_if_moved, factor, factor_of, coefficient_of, diameters_of}
use Rattle.grounds.specs.Grounds.{broken}
use Rattle.findings.specs.Listing.{part_of, of_kind, beside_of, broken_at, finding_at, rule_findings, findings_to, findings, accepted, listed, lines_for, findings_for}
use Rattle.diameters.specs.Diameters.{diameter, half_diameter}
use Rattle.steps.specs.Steps.{no_figure, reaches, last_reached, asked}
use Rattle.site.specs.Site.{undisturbed, minimum_disturbed, minimum_points, next_allowed}
use Rattle.figures.specs.Figures.{opening_rows, steps_rows, list_rows, steps_at, figure_trouble, read_figure}
use Rattle.conditions.specs.Conditions.{missing, moved, uneven, short, leaking, line_against, ratio_against, steady_limit, unsteady}
use Rattle.classes.specs.Classes.{places_of, place_at, class_of}
use Rattle.rules.specs.Rules.{table, ground_of}
use Rattle.fields.specs.Numbers.{u16_at, u32_at, i16_at}
use Rattle.opening.specs.Opening.{version_of}
use Rattle.fields.specs.Trouble.{first, checks, record_trouble, up_to}
use Rattle.arrays.specs.Arrays.{padded, filled_to}
use Rattle.parts.specs.Values.{run_at}
use Rattle.job.specs.Places.{run_start}
use Rattle.entries.specs.Entries.{any_to}
use Rattle.job.specs.Troubles.{parts_trouble, run_trouble, number_before, job_trouble}
use Rattle.reduction.specs.Reducing.{worked, reduction, chosen_in, reduced_run, run_named}
use Rattle.output.specs.Answers.{packed}
use Rattle.output.specs.Bytes.{le, joined}
use Rattle.output.specs.Splice.{spliced}
use Rattle.writing.specs.Bytes.{entry_bytes, sheet_bytes, finding_bytes, findings_bytes}
use Rattle.handing.specs.Handing.{handed, success, answer_of, lines_after, findings_after}
use Rattle.runs.specs.Outcomes.{outcome}
use Rattle.lines.specs.Starred.{worked_lines}
use Rattle.demands.specs.Starred.{PrintedJob}
use Rattle.demands.specs.MovedFactor.{Kept, Voided}
use Rattle.demands.specs.ByFigure.{EitherWay}

computed : PrintedJob × (Kept × (Voided × EitherWay))
unfolding grown floor_root nearest_root round_div division within signed_within same_identity sum_to time metered_volume allowance leak_loss leak_losses corrected_volume mean_orifice meter_pressure meter_temperature dry_volume water_vapor moisture unless_zero add_scaled nozzle_area drawn_gas isokinetic deduction final_weights tares catch concentration metering stack sampling lines sheet dry_weight wet_weight stack_pressure stack_temperature point_root mean_root density_root velocity eligible keep chosen chosen_for holds deciding apart factor_moved lower_if_moved factor factor_of coefficient_of diameters_of broken broken_at finding_at rule_findings findings_to findings accepted listed lines_for findings_for missing moved uneven diameter half_diameter undisturbed no_figure reaches last_reached asked opening_rows steps_rows list_rows steps_at figure_trouble read_figure minimum_disturbed minimum_points next_of next_grid next_allowed short leaking line_against ratio_against steady_limit unsteady table ground_of part_of of_kind beside_of places_of place_at class_of u16_at u32_at i16_at version_of first checks up_to padded filled_to record_trouble run_at run_start any_to parts_trouble run_trouble number_before job_trouble worked reduction chosen_in reduced_run run_named packed le spliced joined entry_bytes sheet_bytes finding_bytes findings_bytes handed outcome success answer_of lines_after findings_after worked_lines
computed = (
  record { answer = refl; lines = refl; findings = refl },
  (
    record { answer = refl; lines = refl; findings = refl },
    (
      record { answer = refl; lines = refl; findings = refl },
      record {
        fewer_without = record { answer = refl; lines = refl; findings = refl };
        fewer_by = record { answer = refl; lines = refl; findings = refl };
        more_without = record { answer = refl; lines = refl; findings = refl };
        more_by = record { answer = refl; lines = refl; findings = refl };
      },
    ),
  ),
)

-- The worked job
pub printed : PrintedJob
printed = computed.0

-- The same with a meter that moved, in version 1 and in version 2
pub kept : Kept
kept = computed.1.0

pub voided : Voided
voided = computed.1.1.0

-- The same with a disturbance that is near, by a figure and without one
pub either_way : EitherWay
either_way = computed.1.1.1
