-- Each way through the call for a job's text, and what came of it.
use Prim.Native.Nat.{ℕ, ◌^◌, ◌≤◌, ◌<◌}
use mathlib.Core.Path.{◌≡◌, refl, ◌∙◌, ap}
use mathlib.Core.List.{List, ◌++◌}
use native.Mathlib.Nat.{zero-add}
use native.Mathlib.Omega.{arith}
use borrow.Author.Tests.{lt-ltb, le-ltb}
use lib.ListN.{length, drop}
use Rattle.output.specs.Splice.{spliced}
use Rattle.output.proofs.Splice.{length_spliced}
use Rattle.fields.specs.Trouble.{Clear, At}
use Rattle.steps.specs.declared.Figure.{Figure}
use Rattle.figures.specs.Figures.{Supplied}
use Rattle.job.specs.declared.Job.{Job}
use Rattle.job.specs.Troubles.{job_trouble}
use Rattle.job.specs.Reading.{ClearJob}
use Rattle.output.specs.Answers.{Answer, Done, Refused}
use Rattle.characters.specs.Writing.{WroteFront}
use Rattle.printing.specs.Jobs.{job_text}
use Rattle.printing.proofs.Lengths.{text_most}
use Rattle.printed.specs.Printing.{if_fits, printing, printing_answer, printing_out, HandsOver, Prints, PrintsBy}

-- a text's length fits 32 bits
pub end_fits : (fig : Figure) (s : List ℕ) {end : ℕ} → end ≡ length (job_text fig s) → end < 2 ^ 32
end_fits fig s e = omega (arith, text_most fig s)

pub refused_by_reader : (fig : Figure) (s : List ℕ) {n p : ℕ} (old : List ℕ) → job_trouble s ≡ At n p → Prints fig s old old (Refused n p)
unfolding printing printing_answer printing_out
refused_by_reader fig s old t = rw t (record { answer = refl; out = refl })

-- a text, where nothing is in trouble
pub refused_short : (text old : List ℕ) {end : ℕ} → end ≡ length text → length old < end → HandsOver text old old (Refused 9 0)
unfolding if_fits printing_answer printing_out
refused_short text old e short = rw (lt-ltb (length old) (length text) (rw e at short)) (record { answer = refl; out = refl })

pub handed_over : (text old : List ℕ) {out : List ℕ} {end : ℕ} → length text ≤ length old → WroteFront old text out end → HandsOver text old out (Done end)
unfolding if_fits printing_answer printing_out
handed_over text old room w =
    rw (le-ltb (length old) (length text) room) (record { answer = ap Done w.long; out = w.is })

-- a text copied over the front of an output that is long enough
pub copied : (text old : List ℕ) {front : List ℕ} → length text ≤ length old → front ≡ text → HandsOver text old (front ++ drop (length text) old) (Done (length text))
unfolding spliced
copied text old room e =
    let is : text ++ drop (length text) old ≡ spliced old 0 text = rw zero-add refl in
    rw e (handed_over text old room (record { is = is; long = refl; kept = ap length is ∙ length_spliced old 0 text (omega arith) }))

pub of_clear : (fig : Figure) (s : List ℕ) (j : Job) {old out : List ℕ} {a : Answer} → ClearJob s j → HandsOver (job_text fig s) old out a → Prints fig s old out a
unfolding printing
of_clear fig s j ok p = rw ok.clear p

-- By what is supplied for a figure: its trouble comes first, and without one the figure decides

pub refused_by_figure : (f : Supplied) (s : List ℕ) {n p : ℕ} (old : List ℕ) → f.trouble ≡ At n p → PrintsBy f s old old (Refused n p)
unfolding printing_answer printing_out
refused_by_figure f s old told = rw told (record { answer = refl; out = refl })

pub by_good_figure : (f : Supplied) (s : List ℕ) {old out : List ℕ} {a : Answer} → f.trouble ≡ Clear → Prints f.figure s old out a → PrintsBy f s old out a
by_good_figure f s clear p = rw clear p
