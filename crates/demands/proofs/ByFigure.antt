-- A figure changes rule 9 at a site that is not undisturbed, and nothing else; there it can change whether a run stands.
use Prim.Native.Nat.{ℕ, ◌*◌}
use mathlib.Core.Path.{◌≡◌, refl, sym, ◌∙◌, ap}
use mathlib.Core.Bool.{true}
use mathlib.Core.List.{List}
use native.Mathlib.Omega.{arith}
use borrow.Author.Tests.{ne_eqb}
use lib.ListN.{replicate}
use Rattle.readings.specs.declared.headers.Version.{Version}
use Rattle.readings.specs.Ranges.{within, signed_within}
use Rattle.fields.specs.Numbers.{u16_at, u32_at, i16_at}
use Rattle.fields.specs.Trouble.{Clear, first, checks, record_trouble, up_to}
use Rattle.records.specs.declared.Run.{Run}
use Rattle.records.specs.Records.{same_identity, sum_to}
use Rattle.lines.specs.declared.Lines.{Lines}
use Rattle.choosing.specs.declared.Chosen.{Chosen}
use Rattle.steps.specs.declared.Figure.{Figure}
use Rattle.site.specs.Site.{undisturbed, minimum_points}
use Rattle.grounds.specs.Grounds.{broken}
use Rattle.classes.specs.Classes.{places_of}
use Rattle.rules.specs.Rules.{last_rule, table, ground_of}
use Rattle.findings.specs.Listing.{part_of, beside_of, broken_at, lines_for, findings_to, findings, findings_for, Breaks}
use Rattle.opening.specs.Opening.{version_of}
use Rattle.parts.specs.Values.{run_at}
use Rattle.entries.specs.Entries.{any_to}
use Rattle.job.specs.Places.{run_start, run_of}
use Rattle.job.specs.Troubles.{parts_trouble, run_trouble, number_before, job_trouble}
use Rattle.job.specs.Worked.{near_job}
use Rattle.reduction.specs.Reducing.{worked}
use Rattle.writing.specs.Bytes.{sheet_size, finding_size}
use Rattle.demands.specs.FigureFile.{no_file, file}
use Rattle.demands.specs.Demands.{SameRun, SameBytes}
use Rattle.demands.specs.ByFigure.{OnlyNine, asks_for, AnyFigures}
use Rattle.demands.proofs.MovedFactor.{same_members}
use Rattle.demands.proofs.Printed.{either_way}

module _ (v : Version) (f g : Figure) (r : Run) (ch : Chosen) where
  -- another rule goes by nothing of the figure
  other_rule : (l : Lines) (rule i : ℕ) → (rule ≡ 9 → ⊥) → broken_at f r ch l rule i ≡ broken_at g r ch l rule i
  unfolding beside_of broken_at table ground_of
  other_rule l rule i other = rw (ne_eqb rule 9 other)

  breaks_other : {a b : Figure} (l : Lines) (rule place : ℕ) → ((i : ℕ) → broken_at a r ch l rule i ≡ broken_at b r ch l rule i) → Breaks a r ch l rule place → Breaks b r ch l rule place
  breaks_other l rule place same b =
      record {
        first = b.first;
        last = b.last;
        index = b.index;
        inside = b.inside;
        there = b.there;
        broken = sym (same b.index) ∙ b.broken;
      }

  same_minimum : undisturbed r.header.site ≡ true → minimum_points f r.header.site ≡ minimum_points g r.header.site
  unfolding minimum_points
  same_minimum far = rw far

  same_beside : (l : Lines) → undisturbed r.header.site ≡ true → beside_of f r ch l ≡ beside_of g r ch l
  unfolding beside_of
  same_beside l far = rw (same_minimum far)

  same_list : (l : Lines) → undisturbed r.header.site ≡ true → findings v f r ch l ≡ findings v g r ch l
  unfolding findings broken_at
  same_list l far =
      ap (λ b. findings_to v (λ rule i. broken (ground_of (part_of r rule i) b rule)) (places_of r.header.counts) last_rule) (same_beside l far)

  -- For every run, certificates and two figures
  pub only_nine : OnlyNine v f g r ch
  unfolding worked findings_for
  only_nine =
      record {
        sheet = refl;
        others = λ rule place other. (
          breaks_other (lines_for v r ch) rule place (λ i. other_rule (lines_for v r ch) rule i other),
          breaks_other (lines_for v r ch) rule place (λ i. sym (other_rule (lines_for v r ch) rule i other)),
        );
        undisturbed = λ far. rw (same_list (lines_for v r ch) far);
      }

-- Without one figure for both, two jobs would not come to the same

read : (job_trouble (near_job 8 450) ≡ Clear) × ((run_of (near_job 8 450) 0).header.number ≡ 7)
unfolding u16_at u32_at i16_at version_of first checks up_to within signed_within same_identity sum_to run_at record_trouble run_start any_to parts_trouble run_trouble number_before job_trouble
read = (refl, refl)

itself : SameRun (near_job 8 450) (near_job 8 450) 7
unfolding u16_at
itself =
    record {
      version = refl;
      records = record {
        first = read.0;
        second = read.0;
        index = 0;
        inside = omega arith;
        number = read.1;
        other = 0;
        within = omega arith;
        record' = refl;
        certificates =
            record {
              meter = same_members _ _ _ _ 4 (λ i inside. refl);
              pitot = same_members _ _ _ _ 4 (λ i inside. refl);
              nozzle = same_members _ _ _ _ 4 (λ i inside. refl);
            };
      };
    }

pub figure_counts : SameBytes AnyFigures SameRun → ⊥
figure_counts same_bytes =
    let lines : List ℕ = replicate sheet_size 0 in
    let findings : List ℕ = replicate (finding_size * 2) 0 in
    let other =
    same_bytes no_file (file (asks_for 8)) (near_job 8 450) (near_job 8 450) 7 tt itself lines findings _ _ _
    (record { answer = refl; lines = refl; findings = refl }) in
    let never : ◌≡◌ {A = ℕ} 2 65537 = sym either_way.fewer_without.answer ∙ other.answer ∙ either_way.fewer_by.answer in
    absurd (omega arith)
