-- Which run a call reduces: the only one of its number.
use Rattle.std.specs.Prelude.{Option, Some, None}
use Prim.Native.Nat.{ℕ, ◌<◌}
use mathlib.Core.Path.{◌≡◌, refl, sym, ◌∙◌, ap}
use mathlib.Core.List.{List}
use native.Mathlib.Decide.{dec_lt}
use native.Mathlib.Omega.{arith}
use Rattle.fields.specs.Trouble.{Clear}
use Rattle.steps.specs.declared.Figure.{Figure}
use Rattle.opening.specs.Opening.{run_count_of}
use Rattle.job.specs.Places.{run_of}
use Rattle.job.specs.Troubles.{job_trouble}
use Rattle.job.proofs.ClearJobs.{rising}
use Rattle.reduction.specs.Reducing.{reduced_run, run_named}
use Rattle.reduction.proofs.Naming.{found_inside, named, none_named}
use Rattle.handing.specs.Handing.{refused, handed}
use Rattle.runs.specs.Outcomes.{of_run, of_trouble, outcome}
use Rattle.demands.specs.Demands.{OnlyRun}

module _ (s : List ℕ) (run : ℕ) (clear : job_trouble s ≡ Clear) where
  -- a job that is read has one run of a number
  one_of_number : (j k : ℕ) → j < run_count_of s → k < run_count_of s → (run_of s j).header.number ≡ (run_of s k).header.number → j ≡ k
  one_of_number j k hj hk same = order (dec_lt j k) (dec_lt k j)
    where
      order : Dec (j < k) → Dec (k < j) → j ≡ k
      order (yes l) d = let above = rising s clear j k l hk in absurd (omega (arith, above, same))
      order (no f) (yes l) = let above = rising s clear k j l hj in absurd (omega (arith, above, same))
      order (no f) (no g) = omega (arith, f, g)

  pub only_run : (k : ℕ) → k < run_count_of s → (run_of s k).header.number ≡ run → OnlyRun s run k
  only_run k inside number = record { inside = inside; number = number; only = λ j h e. one_of_number j k h inside (e ∙ sym number) }

  -- so the run of that number is the one found
  pub found_by_number : (k : ℕ) → k < run_count_of s → (run_of s k).header.number ≡ run → run_named (run_of s) run (run_count_of s) ≡ Some k
  found_by_number k inside number = go (run_named (run_of s) run (run_count_of s)) refl
    where
      go : (which : Option ℕ) → run_named (run_of s) run (run_count_of s) ≡ which → run_named (run_of s) run (run_count_of s) ≡ Some k
      go None e = absurd (none_named (run_of s) run (run_count_of s) e k inside number)
      go (Some j) e = e ∙ ap Some (one_of_number j k (found_inside (run_of s) run (run_count_of s) e) inside (named (run_of s) run (run_count_of s) e ∙ sym number))

  -- and where no run has it none is found
  pub not_found : ((k : ℕ) → k < run_count_of s → (run_of s k).header.number ≡ run → ⊥) → run_named (run_of s) run (run_count_of s) ≡ None
  not_found none = go (run_named (run_of s) run (run_count_of s)) refl
    where
      go : (which : Option ℕ) → run_named (run_of s) run (run_count_of s) ≡ which → run_named (run_of s) run (run_count_of s) ≡ None
      go None e = e
      go (Some j) e = absurd (none j (found_inside (run_of s) run (run_count_of s) e) (named (run_of s) run (run_count_of s) e))

  -- the outcome is that run's, or the refusal 10
  pub outcome_of_run : (fig : Figure) (k lines findings : ℕ) → k < run_count_of s → (run_of s k).header.number ≡ run → outcome fig s run lines findings ≡ handed (reduced_run fig s k) lines findings
  unfolding outcome
  outcome_of_run fig k lines findings inside number =
      ap (λ t. of_trouble t fig s run lines findings) clear
      ∙ ap (λ which. of_run fig s which lines findings) (found_by_number k inside number)

  pub outcome_of_none : (fig : Figure) (lines findings : ℕ) → ((k : ℕ) → k < run_count_of s → (run_of s k).header.number ≡ run → ⊥) → outcome fig s run lines findings ≡ refused 10 0
  unfolding outcome
  outcome_of_none fig lines findings none =
      ap (λ t. of_trouble t fig s run lines findings) clear
      ∙ ap (λ which. of_run fig s which lines findings) (not_found none)
