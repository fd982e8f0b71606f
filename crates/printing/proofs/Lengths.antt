-- How long what is printed of a file can be.
use Prim.Native.Nat.{ℕ, ◌≤◌}
use mathlib.Core.Path.{◌≡◌, refl}
use mathlib.Core.List.{List, ◌++◌}
use native.Mathlib.Omega.{arith}
use lib.ListN.{length, length-append}
use Rattle.fields.specs.Trouble.{Trouble, Clear, At}
use Rattle.steps.specs.declared.Figure.{Figure}
use Rattle.opening.specs.Opening.{version_of, run_count_of}
use Rattle.job.specs.Places.{run_of}
use Rattle.job.specs.Troubles.{job_trouble}
use Rattle.job.proofs.ClearJobs.{job_clear, clear_run}
use Rattle.job.proofs.WholeFile.{run_count_lem}
use Rattle.reduction.specs.Reducing.{reduction, chosen_in, reduced_run}
use Rattle.characters.specs.Numbers.{decimal}
use Rattle.characters.specs.Words.{spelled}
use Rattle.characters.proofs.Decimals.{decimal_short}
use Rattle.characters.proofs.Texts.{joined_short}
use Rattle.text.specs.Sheets.{space, newline}
use Rattle.text.specs.Runs.{run_text}
use Rattle.text.proofs.Lengths.{run_short}
use Rattle.printing.specs.Jobs.{refused_word, refusal_text, runs_text, text_of, job_text}

pub runs_short : (fig : Figure) (s : List ℕ) → job_trouble s ≡ Clear → length (runs_text fig s (run_count_of s)) ≤ 27088
unfolding runs_text reduced_run reduction chosen_in
runs_short fig s clear =
    let all = joined_short (λ k. run_text (reduced_run fig s k)) (run_count_of s) 1693 (λ k inside. run_short (version_of s) fig (run_of s k) (chosen_in s k) (clear_run s clear k inside)) in
    omega (arith, all, run_count_lem s (job_clear s clear).file)

pub refusal_short : (number place : ℕ) → length (refusal_text number place) ≤ 50
unfolding refusal_text spelled
refusal_short number place =
    let one = length-append refused_word (decimal number) in
    let two = length-append (refused_word ++ decimal number) space in
    let three = length-append (refused_word ++ decimal number ++ space) (decimal place) in
    let four = length-append (refused_word ++ decimal number ++ space ++ decimal place) newline in
    omega (arith, one, two, three, four, decimal_short number, decimal_short place)

-- A length that suffices for the text of any file
pub text_most : (fig : Figure) (s : List ℕ) → length (job_text fig s) ≤ 27088
unfolding job_text
text_most fig s = most_of (job_trouble s) refl
  where
    most_of : (t : Trouble) → job_trouble s ≡ t → length (text_of t fig s) ≤ 27088
    most_of Clear e = runs_short fig s e
    most_of (At number place) e = omega (arith, refusal_short number place)
