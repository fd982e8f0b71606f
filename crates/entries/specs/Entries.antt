-- A certificate's first trouble (docs/RULES.md, Refusals): in itself, and then that it repeats an earlier one.
use Rattle.std.specs.Prelude.{ℕ, zero, suc, Bool, false, not, ◌&&◌, ◌||◌, List, eqb}
use Rattle.fields.specs.Trouble.{Trouble, first, trouble_unless, repeated}
use Rattle.records.specs.declared.Certificate.{Certificate}
use Rattle.records.specs.Records.{same_identity}
use Rattle.opening.specs.Opening.{version_of}
use Rattle.heads.specs.Values.{certificate_place, certificate_of}
use Rattle.heads.specs.Rows.{certificate_trouble}

-- the same kind, maker, serial, letter and day
abbrev pub same_certificate : Certificate → Certificate → Bool
same_certificate a b = eqb a.kind b.kind && (same_identity a.identity b.identity && eqb a.day b.day)

-- f 0 or .. or f (n - 1)
unfoldable pub any_to : (ℕ → Bool) → ℕ → Bool
any_to f zero = false
any_to f (suc n) = any_to f n || f n

-- an earlier certificate is the same
abbrev pub repeats : List ℕ → ℕ → Bool
repeats s k = any_to (λ j. same_certificate (certificate_of s j) (certificate_of s k)) k

-- a certificate's fields, and then that it does not repeat an earlier one
abbrev pub entry_trouble : List ℕ → ℕ → Trouble
entry_trouble s k =
    let at : ℕ = certificate_place (version_of s) k in
    first (certificate_trouble s at) (trouble_unless (not (repeats s k)) repeated at)
