-- The fields, and then the look back, which reads the earlier certificates: they are as complete as this one.
use Prim.Native.Nat.{ℕ, ◌+◌, ◌≤◌}
use mathlib.Core.Path.{◌≡◌, sym, ◌∙◌, ap, ap₂}
use mathlib.Core.Bool.{Bool, not}
use native.Mathlib.Omega.{arith}
use lib.ListN.{length}
use Rattle.fields.specs.Trouble.{Clear, trouble_unless, repeated}
use Rattle.fields.proofs.Refusals.{refuses, passes}
use Rattle.records.specs.declared.Certificate.{Certificate}
use Rattle.readings.specs.declared.headers.Version.{Version}
use Rattle.opening.specs.Opening.{version_of}
use Rattle.heads.specs.Values.{certificate_place, certificate_of, certificate_size}
use Rattle.heads.specs.Rows.{certificate_trouble}
use Rattle.fields.proofs.RecordTrouble.{complete_at}
use Rattle.entries.specs.Entries.{same_certificate, any_to, repeats}
use Rattle.entries.proofs.entry_trouble.Goals as goal
use Rattle.entries.proofs.entry_trouble.Goals.{After-place-at, In_ok-trouble, After-repeats}

-- the place is that of the file's version
at_place : (c : After-place-at) → c.place-at.result ≡ certificate_place (version_of c.args.f.bytes.now) c.args.k
at_place c =
    c.place-at.ensures ∙ ap (λ (v : Version). certificate_place v c.args.k) c.args.f.said

-- the fields of the certificate there are clear
clear : (c : In_ok-trouble) → c.place-at.result ≡ certificate_place (version_of c.args.f.bytes.now) c.args.k → Clear ≡ certificate_trouble c.args.f.bytes.now (certificate_place (version_of c.args.f.bytes.now) c.args.k)
clear c there = c.in_ok-trouble.ensures ∙ ap (certificate_trouble c.args.f.bytes.now) there

-- so it is complete
complete : (c : In_ok-trouble) → c.place-at.result ≡ certificate_place (version_of c.args.f.bytes.now) c.args.k → certificate_place c.args.f.version c.args.k + certificate_size c.args.f.version ≤ length c.args.f.bytes.now
complete c there =
    let v = version_of c.args.f.bytes.now in
    rw c.args.f.said (complete_at _ (certificate_place v c.args.k) (certificate_size v) _ (omega arith) (sym (clear c there)))

-- and this is whether it repeats another
again : (c : After-repeats) → c.repeats.result ≡ repeats c.args.f.bytes.now c.args.k
again c = c.repeats.ensures ∙ ap (λ (known : Certificate). any_to (λ j. same_certificate (certificate_of c.args.f.bytes.now j) known) c.args.k) c.nth.ensures

pub returns-in_err-trouble : goal.returns-in_err-trouble
returns-in_err-trouble c =
    let there = at_place (goal.at.returns-in_err-trouble c).After-place-at in
    refuses _ _ _ c.from_residual.ensures.1 (c.in_err-trouble.ensures ∙ ap (certificate_trouble c.args.f.bytes.now) there)

pub nth-requires : goal.nth-requires
nth-requires c = complete c (at_place (goal.at.nth-requires c).After-place-at)

pub invariant_of-earlier : goal.invariant_of-earlier
invariant_of-earlier c =
    let at = goal.at.invariant_of-earlier c in
    record { inside = omega (arith, complete at.In_ok-trouble (at_place at.After-place-at)) }

pub returns-then-repeats : goal.returns-then-repeats
returns-then-repeats c =
    let at = goal.at.returns-then-repeats c in
    let there = at_place at.After-place-at in
    rw c.number.ensures
    (passes (clear at.In_ok-trouble there)
    (ap₂ (λ (b : Bool) (p : ℕ). trouble_unless (not b) repeated p) (sym c.if-repeats.true ∙ again at.After-repeats) there))

pub returns : goal.returns
returns c =
    let at = goal.at.returns c in
    let there = at_place at.After-place-at in
    passes (clear at.In_ok-trouble there)
    (ap₂ (λ (b : Bool) (p : ℕ). trouble_unless (not b) repeated p) (sym c.if-repeats.false ∙ again at.After-repeats) there)
