-- The loop keeps that none of those passed is the same.
use mathlib.Core.Path.{◌≡◌, ◌∙◌, ap}
use borrow.Author.Rules.{rules}
use Rattle.entries.specs.Entries.{same_certificate}
use Rattle.records.specs.declared.Certificate.{Certificate}
use Rattle.heads.specs.Values.{certificate_of}
use Rattle.entries.proofs.LookBack.{any_none, any_goes_on, any_stops, any_ends}
use Rattle.entries.proofs.repeats.Goals as goal
use Rattle.entries.proofs.repeats.Goals.{After-same}

-- what was compared is the certificate at its place
own : (c : After-same) → c.same.result ≡ same_certificate (certificate_of c.args.earlier.file.bytes.now c.loop-j.j) c.args.c
own c =
    c.same.ensures ∙ ap (λ (a : Certificate). same_certificate a c.args.c) c.nth.ensures

pub loop-j-init : goal.loop-j-init
loop-j-init c = (search rules, any_none _)

pub returns-then-same : goal.returns-then-same
returns-then-same c =
    any_stops _ _ _ (own (goal.at.returns-then-same c).After-same) c.if-same.true c.loop-j-test.true

pub loop-j-preserved : goal.loop-j-preserved
loop-j-preserved c =
    let turn = c.loop-j.invariant in
    (search rules, any_goes_on _ _ turn.1 (own (goal.at.loop-j-preserved c).After-same) c.if-same.false)

pub returns : goal.returns
returns c =
    let turn = c.loop-j.invariant in
    any_ends _ _ _ turn.1 turn.0 c.loop-j-test.false
