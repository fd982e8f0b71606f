-- The numbers tell the reasons apart.
use Rattle.std.proofs.Common.{ℕ, ◌≡◌, [], ◌∷◌, get_or, refl, sym, ◌∙◌, ap}
use Rattle.refusals.specs.declared.Reason.{Reason}
use Rattle.refusals.specs.declared.Reason.TheVariants.{Incomplete, Mark, Version, Count, Field, Repeated, Seconds, LeftOver, ShortOutput, UnknownRun, OutsideRanges, Figure, UnknownFinding}
use Rattle.refusals.specs.Reasons.{reason_number}

-- the reason of a number; 0, 12 and 13 are none
abbrev reason_of : ℕ → Reason
reason_of n =
    get_or
    (UnknownFinding
    ∷ Incomplete
    ∷ Mark
    ∷ Version
    ∷ Count
    ∷ Field
    ∷ Repeated
    ∷ Seconds
    ∷ LeftOver
    ∷ ShortOutput
    ∷ UnknownRun
    ∷ OutsideRanges
    ∷ UnknownFinding
    ∷ UnknownFinding
    ∷ Figure
    ∷ UnknownFinding
    ∷ [])
    n UnknownFinding

back : (a : Reason) → reason_of (reason_number a) ≡ a
back Incomplete = refl
back Mark = refl
back Version = refl
back Count = refl
back Field = refl
back Repeated = refl
back Seconds = refl
back LeftOver = refl
back ShortOutput = refl
back UnknownRun = refl
back OutsideRanges = refl
back Figure = refl
back UnknownFinding = refl

-- one number: one reason
pub reason_apart : {a b : Reason} → reason_number a ≡ reason_number b → a ≡ b
reason_apart {a} {b} e = sym (back a) ∙ ap reason_of e ∙ back b
