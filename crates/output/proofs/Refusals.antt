-- What `?` makes of a file's refusal, and of a call's own.
use Rattle.std.proofs.Common.{ℕ, ◌+◌, ◌*◌, ◌/◌, ◌%◌, ◌<◌, ◌^◌, ◌≡◌, ◌∙◌, min, ap, ap₂, refl, arith}
use Rattle.std.specs.Prelude.{Option, Some, None, Result, Ok, Err}
use Rattle.std.specs.Option.{ok_or}
use Rattle.std.specs.Result.{IsErrAnd}
use Rattle.refusals.specs.declared.Reason.{Reason}
use Rattle.refusals.specs.Reasons.{reason_number}
use Rattle.fields.specs.declared.trouble.BadFile.{BadFile}
use Rattle.output.specs.declared.Refusal.{Refusal}
use Rattle.output.specs.Answers.{Refused, answer_told}

-- what is told of a number and a place that fits
told : (n p : ℕ) {r : Refusal} → p < 2 ^ 32 → r ≡ record { told = n * 4294967296 + p } → Refused (r.told / 4294967296) (r.told % 4294967296) ≡ Refused n p
told n p fits e =
    let number : (n * 4294967296 + p) / 4294967296 ≡ n = omega (arith, fits) in
    let place : (n * 4294967296 + p) % 4294967296 ≡ p = omega (arith, fits) in
    rw e (ap₂ Refused number place)

-- a file's refusal is told as it is, since its place fits
pub file_told : (e : BadFile) (r : Result ℕ Refusal) → e.place < 2 ^ 32 → IsErrAnd r (λ x. x ≡ record { told = e.number * 4294967296 + min e.place 4294967295 }) → answer_told r ≡ Refused e.number e.place
file_told e (Ok v) fits given = absurd given
file_told e (Err x) fits given =
    let whole : min e.place 4294967295 ≡ e.place = omega arith in
    told e.number e.place fits (given ∙ ap (λ (p : ℕ). record { told = e.number * 4294967296 + p }) whole)

-- a call's own is about no place
pub call_told : (why : Reason) (r : Result ℕ Refusal) → IsErrAnd r (λ x. x ≡ record { told = reason_number why * 4294967296 }) → answer_told r ≡ Refused (reason_number why) 0
call_told why (Ok v) given = absurd given
call_told why (Err x) given =
    told (reason_number why) 0 (omega arith) (given ∙ ap (λ (n : ℕ). record { told = n }) (omega arith))

-- where a call's own refusal stands for what is not there, and where it is there
pub none_there : {A : Type 0} (o : Option A) (why : Reason) {e : Reason} → ◌≡◌ {A = Result A Reason} (Err e) (ok_or o why) → (o ≡ None) × (e ≡ why)
none_there None why p = (refl, cc)
none_there (Some x) why p = cc

pub some_there : {A : Type 0} (o : Option A) (why : Reason) {x : A} → ◌≡◌ {A = Result A Reason} (Ok x) (ok_or o why) → o ≡ Some x
some_there None why p = cc
some_there (Some y) why p = cc
