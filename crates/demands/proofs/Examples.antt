-- The worked job is read as docs/RULES.md prints it in either version, each refusal number is given for some file, and no other number is ever given.
use mathlib.Core.Path.{◌≡◌, refl}
use mathlib.Core.List.{List, [], ◌∷◌, map}
use Rattle.readings.specs.declared.headers.Version.{Version}
use Rattle.readings.specs.declared.headers.Version.TheVariants.{One, Two}
use Rattle.fields.specs.Numbers.{u16_at, u32_at, i16_at}
use Rattle.fields.specs.Trouble.{first, checks, up_to, record_trouble}
use Rattle.readings.specs.Ranges.{within, signed_within}
use Rattle.records.specs.Records.{same_identity, sum_to}
use Rattle.records.specs.Worked.{worked_certificates, worked_run}
use Rattle.arrays.specs.Arrays.{padded}
use Rattle.opening.specs.Opening.{version_of}
use Rattle.heads.specs.Values.{certificate_of}
use Rattle.parts.specs.Values.{run_at}
use Rattle.job.specs.Places.{run_start, run_of}
use Rattle.entries.specs.Entries.{any_to}
use Rattle.job.specs.Troubles.{parts_trouble, run_trouble, number_before, job_trouble}
use Rattle.job.specs.Reading.{job_in, ClearJob}
use Rattle.job.specs.Worked.{worked_job, worked_read, Refusal, refusals}

pub worked :
    (v : Version)
    → ClearJob (worked_job v) (worked_read v) × (map (certificate_of (worked_job v)) (0 ∷ 1 ∷ 2 ∷ 3 ∷ []) ≡ worked_certificates) × (run_of (worked_job v) 0 ≡ worked_run)
unfolding u16_at u32_at i16_at version_of first checks up_to within signed_within same_identity sum_to padded run_at record_trouble run_start any_to parts_trouble run_trouble number_before job_trouble job_in
worked One = (record { is = refl; clear = refl }, refl, refl)
worked Two = (record { is = refl; clear = refl }, refl, refl)

-- each file of a list is answered as the list says
abbrev pub Answered : List Refusal → Type 0
Answered [] = Unit
Answered (r ∷ rs) = (job_trouble r.file ≡ r.trouble) × Answered rs

pub refused_each : Answered refusals
unfolding u16_at u32_at i16_at version_of first checks up_to within signed_within same_identity sum_to padded run_at record_trouble run_start any_to parts_trouble run_trouble number_before job_trouble
refused_each =
    (refl, (refl, (refl, (refl, (refl, (refl, (refl, (refl, (refl, (refl, (refl, (refl, (refl, (refl, (refl, (refl, tt))))))))))))))))
