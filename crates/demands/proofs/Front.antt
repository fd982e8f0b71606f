-- Nothing past the first 17,274 bytes of a file matters: for every call, and for what is printed.
use Prim.Native.Nat.{ℕ, ◌≤◌, ◌<◌}
use mathlib.Core.Path.{◌≡◌, refl, sym, ◌∙◌, ap}
use mathlib.Core.List.{List}
use native.Mathlib.Omega.{arith}
use lib.ListN.{length, take}
use lib.Seq.{take_all}
use Rattle.fields.specs.Trouble.{Trouble, Clear, At}
use Rattle.steps.specs.declared.Figure.{Figure}
use Rattle.opening.specs.Opening.{run_count_of}
use Rattle.job.specs.Places.{longest_job}
use Rattle.job.specs.Troubles.{job_trouble}
use Rattle.job.proofs.ClearJobs.{job_clear, job_end}
use Rattle.job.proofs.Reach.{start_reach}
use Rattle.job.proofs.WholeFile.{run_count_lem}
use Rattle.printing.specs.Jobs.{text_of, job_text}
use Rattle.printed.specs.Printing.{printing, unless_trouble, unprinted_if_bad}
use Rattle.counting.specs.Counting.{count_of, count_answer, number_at, number_answer}
use Rattle.runs.specs.Outcomes.{of_trouble, outcome, unless_bad_figure}
use Rattle.demands.specs.FigureFile.{supplied, figure_in}
use Rattle.demands.specs.Front.{Alike}
use Rattle.demands.proofs.SameOutcomes.{reduces_same, prints_same}
use Rattle.demands.proofs.Beyond.{prefix}

-- a job that is read is no longer than the longest
read_length : (s : List ℕ) → job_trouble s ≡ Clear → length s ≤ longest_job
read_length s clear =
    let j = job_clear s clear in
    omega (arith, job_end s clear, start_reach s j.file (run_count_of s) j.runs, run_count_lem s j.file)

-- two files of the same outcomes, answers and text are alike
alike : (s t : List ℕ) → ((fig : Figure) (run lines findings : ℕ) → outcome fig s run lines findings ≡ outcome fig t run lines findings) → count_answer s ≡ count_answer t → ((index : ℕ) → number_answer s index ≡ number_answer t index) → ((fig : Figure) (room : ℕ) → printing fig s room ≡ printing fig t room) → ((fig : Figure) → job_text fig s ≡ job_text fig t) → Alike s t
alike s t outcomes counts numbers texts printed =
    record {
      reduce = λ l run. (
        reduces_same (supplied l) (supplied l) s t (ap (unless_bad_figure (supplied l).trouble) (outcomes (figure_in l) run _ _)),
        reduces_same (supplied l) (supplied l) t s (ap (unless_bad_figure (supplied l).trouble) (sym (outcomes (figure_in l) run _ _))),
      );
      run_count = counts;
      run_number = numbers;
      sheet_text = λ l. (
        prints_same (supplied l) (supplied l) s t (ap (unprinted_if_bad (supplied l).trouble) (texts (figure_in l) _)),
        prints_same (supplied l) (supplied l) t s (ap (unprinted_if_bad (supplied l).trouble) (sym (texts (figure_in l) _))),
      );
      printed = printed;
    }

-- two files in the same trouble
refused_alike : (s t : List ℕ) {n p : ℕ} → job_trouble s ≡ At n p → job_trouble t ≡ At n p → Alike s t
unfolding outcome count_answer number_answer printing job_text
refused_alike s t e f =
    alike s t
    (λ fig run lines findings. ap (λ u. of_trouble u fig s run lines findings) e ∙ sym (ap (λ u. of_trouble u fig t run lines findings) f))
    (ap (λ u. count_of u s) e ∙ sym (ap (λ u. count_of u t) f))
    (λ index. ap (λ u. number_at u s index) e ∙ sym (ap (λ u. number_at u t index) f))
    (λ fig room. ap (λ u. unless_trouble u fig s room) e ∙ sym (ap (λ u. unless_trouble u fig t room) f))
    (λ fig. ap (λ u. text_of u fig s) e ∙ sym (ap (λ u. text_of u fig t) f))

-- and the same file
same_alike : {s t : List ℕ} → s ≡ t → Alike s t
same_alike {s} {t} e =
    alike s t
    (λ fig run lines findings. ap (λ u. outcome fig u run lines findings) e)
    (ap count_answer e)
    (λ index. ap (λ u. number_answer u index) e)
    (λ fig room. ap (λ u. printing fig u room) e)
    (λ fig. ap (job_text fig) e)

-- The first 17,274 bytes of a file decide
pub front_decides : (s : List ℕ) (m : ℕ) → longest_job < m → Alike (take m s) s
front_decides s m long = by_trouble (job_trouble s) refl
  where
    by_trouble : (t : Trouble) → job_trouble s ≡ t → Alike (take m s) s
    by_trouble (At n p) e = refused_alike (take m s) s (prefix s m long ∙ e) e
    by_trouble Clear e = same_alike (take_all m s (omega (arith, read_length s e)))
