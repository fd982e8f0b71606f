-- The run is read at its place and worked with the certificates that the job holds.
use native.Mathlib.Omega.{arith}
use mathlib.Core.Path.{◌∙◌, ◌≡◌}
use Rattle.reduction.specs.Reducing.{judged, judged_run, chosen_in, ClearRun}
use Rattle.job.proofs.ReadJobs.{few_runs, count_of_certificates, lies_within}
use Rattle.reduction.proofs.ClearJobs.{is_clear, workable, this_run, ready}
use Prim.Native.Nat.{ℕ}
use mathlib.Core.List.{List}
use lib.ListN.{get_or}
use Rattle.readings.specs.declared.headers.Version.{Version}
use Rattle.records.specs.declared.Run.{Run}
use Rattle.steps.specs.declared.Figure.{Figure}
use Rattle.opening.specs.Opening.{version_of}
use Rattle.heads.specs.Values.{certificate_of}
use Rattle.job.specs.declared.Job.{Job}
use Rattle.parts.specs.Values.{run_at}
use Rattle.choosing.specs.Choosing.{chosen_for}
use Rattle.findings.specs.declared.Sought.{Sought}
use Rattle.reduction.specs.declared.Reduced.{Reduced}
use Rattle.reduction.proofs.reduce.Goals as goal

is_judged_run : (sought : Sought) (fig : Figure) {s : List ℕ} {v : Version} {j : Job} {k : ℕ} {r : Run} {done : Reduced} → v ≡ version_of s → ClearRun s j k → r ≡ run_at s (get_or j.starts k 0) → done ≡ judged sought v fig r (chosen_for (certificate_of s) j.certificates r.header) → done ≡ judged_run sought fig s k
unfolding judged_run chosen_in
is_judged_run sought fig {s} {v} {j} ev ok e ed =
    ed ∙ rw (ev, this_run ok e, count_of_certificates s j ok.job)

pub offset_bounds-read-k : goal.offset_bounds-read-k
offset_bounds-read-k c = omega (arith, few_runs _ _ c.args.read.clear, c.requires.inside)

pub bounds-read-k : goal.bounds-read-k
bounds-read-k c = omega (arith, few_runs _ _ c.args.read.clear, c.requires.inside)

pub run-run-requires : goal.run-run-requires
run-run-requires c =
    let ok = is_clear c.args.read.clear c.requires.inside in
    lies_within _ _ ok.job _ ok.inside

pub invariant_of-all : goal.invariant_of-all
invariant_of-all c =
    let ok = is_clear c.args.read.clear c.requires.inside in
    record { inside = rw c.args.read.file.said (workable _ _ ok.job _ ok.inside).within }

pub work-requires : goal.work-requires
work-requires c =
    record {
      reducible = (ready (is_clear c.args.read.clear c.requires.inside) c.run-run.ensures).reducible;
      seekable = c.requires.seekable;
    }

pub returns : goal.returns
returns c =
    is_judged_run c.args.sought _ c.args.read.file.said (is_clear c.args.read.clear c.requires.inside) c.run-run.ensures c.work.ensures
