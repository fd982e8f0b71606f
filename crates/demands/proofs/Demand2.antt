-- Demand 2. Every line that a successful call wrote is its equation's value, of the only run of that number.
use Prim.Native.Nat.{ℕ, ◌-◌, ◌≤◌}
use mathlib.Core.Path.{◌≡◌, refl, ◌∙◌, ap}
use native.Mathlib.Omega.{arith}
use lib.ListN.{get_or}
use Rattle.readings.specs.declared.headers.Version.{Version}
use Rattle.records.specs.declared.Run.{Run}
use Rattle.metering.specs.Metering.{metering}
use Rattle.stack.specs.Stack.{stack}
use Rattle.sampling.specs.Sampling.{sampling}
use Rattle.lines.specs.Sheet.{lines, sheet, no_entry, line_count}
use Rattle.choosing.specs.declared.Chosen.{Chosen}
use Rattle.findings.specs.Listing.{lines_for}
use Rattle.opening.specs.Opening.{version_of}
use Rattle.job.specs.Places.{run_of}
use Rattle.reduction.specs.Reducing.{worked, reduction, chosen_in, reduced_run}
use Rattle.output.proofs.Records.{record_at}
use Rattle.writing.specs.Bytes.{line_size, entry_bytes, sheet_bytes}
use Rattle.writing.proofs.Sizes.{entry_length}
use Rattle.demands.specs.Equations.{equations, equation}
use Rattle.demands.specs.Demands.{Call, Promised, Succeeds, bytes_of_line, Demand2}
use Rattle.demands.proofs.Succeeding.{Done, done}

-- the sheet of a run's lines holds the equations in order
sheet_equations : (v : Version) (r : Run) (ch : Chosen) → (sheet (lines_for v r ch)).entries ≡ equations v r ch
unfolding lines_for lines metering stack sampling sheet equations
sheet_equations v r ch = refl

pub lines_by_equations : (c : Call) → Promised c → Succeeds c → Demand2 c
unfolding reduced_run reduction chosen_in worked sheet_bytes
lines_by_equations c kept success = record { index = k; run = d.reducing.run; lines = written }
  where
    d : Done c
    d = done c kept success

    k : ℕ
    k = d.index

    written : (i : ℕ) → 1 ≤ i → i ≤ line_count → bytes_of_line c.lines_out i ≡ entry_bytes (equation i (version_of c.job) (run_of c.job k) (chosen_in c.job k))
    written i some few =
        let v = version_of c.job in
        let r = run_of c.job k in
        let ch = chosen_in c.job k in
        ap (λ out. bytes_of_line out i) d.reducing.lines
        ∙ record_at (λ n. entry_bytes (get_or (sheet (lines_for v r ch)).entries n no_entry)) line_size (λ n. entry_length _) c.lines_in line_count (i - 1) (omega arith)
        ∙ ap (λ entries. entry_bytes (get_or entries (i - 1) no_entry)) (sheet_equations v r ch)
