-- No number but 1 to 8 is ever answered by the reader.
use Prim.Native.Nat.{ℕ, ◌≤◌}
use mathlib.Core.Path.{◌≡◌, refl, subst}
use mathlib.Core.Bool.{Bool, true, not, ◌&&◌}
use mathlib.Core.List.{List}
use borrow.Author.Tests.{leb-true}
use lib.Dec.{leb, ltb}
use lib.ListN.{length}
use Rattle.parts.specs.Values.{point_size, segment_size, weighing_size}
use Rattle.fields.specs.Trouble.{Trouble, At}
use Rattle.fields.proofs.FirstTrouble.{told, first_told, unless_told, up_told}
use Rattle.records.specs.declared.Counts.{Counts}
use Rattle.readings.proofs.Ranges.{both_left, both_right}
use Rattle.opening.specs.Opening.{file_header_size, version_of, run_count_of}
use Rattle.heads.specs.Values.{header_at, certificate_place, certificate_size, run_header_size}
use Rattle.fields.proofs.RecordTrouble.{told_at}
use Rattle.job.specs.Places.{run_start}
use Rattle.entries.specs.Entries.{repeats, entry_trouble}
use Rattle.job.specs.Troubles.{good_seconds, parts_trouble, number_before, run_trouble, job_trouble}

abbrev known : ℕ → ℕ → Bool
known number place = leb 1 number && leb number 8

-- the number of a trouble, if there is one, is known
abbrev Known : Trouble → Type 0
Known t = told known t ≡ true

entry_known : (s : List ℕ) (k : ℕ) → Known (entry_trouble s k)
entry_known s k = first_told known _ _ (told_at (λ n. known n 0) s _ (certificate_size (version_of s)) _ refl refl) (unless_told known (not (repeats s k)) 6 (certificate_place (version_of s) k) refl)

parts_known : (s : List ℕ) (start : ℕ) (n : Counts) → Known (parts_trouble s start n)
unfolding parts_trouble
parts_known s start n =
    first_told known _ _ (up_told known _ n.points (λ i inside. told_at (λ n. known n 0) s _ point_size _ refl refl))
    (first_told known _ _ (up_told known _ n.segments (λ i inside. told_at (λ n. known n 0) s _ segment_size _ refl refl))
    (first_told known _ _ (up_told known _ n.weighings (λ i inside. told_at (λ n. known n 0) s _ weighing_size _ refl refl)) (unless_told known (good_seconds s start n) 7 start refl)))

run_known : (s : List ℕ) (start lower : ℕ) → Known (run_trouble s start lower)
unfolding run_trouble
run_known s start lower =
    first_told known _ _ (told_at (λ n. known n 0) s start (run_header_size (version_of s)) _ refl refl)
    (first_told known _ _ (unless_told known (ltb lower (header_at s start).number) 6 start refl) (parts_known s start _))

job_known : (s : List ℕ) → Known (job_trouble s)
unfolding job_trouble
job_known s =
    let end = run_start s (run_count_of s) in
    first_told known _ _ (told_at (λ n. known n 0) s 0 file_header_size _ refl refl)
    (first_told known _ _ (up_told known (entry_trouble s) _ (λ k inside. entry_known s k))
    (first_told known _ _ (up_told known _ _ (λ k inside. run_known s (run_start s k) (number_before s k))) (unless_told known (leb (length s) end) 8 end refl)))

pub numbers : (s : List ℕ) {n p : ℕ} → job_trouble s ≡ At n p → (1 ≤ n) × (n ≤ 8)
numbers s {n} {p} e =
    let k : (leb 1 n && leb n 8) ≡ true = subst Known e (job_known s) in
    (leb-true 1 n (both_left _ _ k), leb-true n 8 (both_right (leb 1 n) _ k))
