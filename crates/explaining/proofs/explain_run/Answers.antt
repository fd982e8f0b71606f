-- Way by way: no rule has the number, nothing was kept, or the explanation.
use native.Mathlib.Omega.{arith}
use Rattle.explaining.proofs.Because.{beneath, beyond, no_finding_lem, has_finding}
use Rattle.explaining.proofs.explain_run.Goals as goal

pub returns-then-rule-lt1 : goal.returns-then-rule-lt1
returns-then-rule-lt1 c = beneath _ _ _ _ _ c.if-rule-lt1.true

pub returns-then-rule : goal.returns-then-rule
returns-then-rule c = beyond _ _ _ _ _ c.if-rule.true

pub reduce-reduced-requires : goal.reduce-reduced-requires
reduce-reduced-requires c =
    record { inside = c.requires; seekable = record { some = omega (arith, c.if-rule-lt1.false); last = omega (arith, c.if-rule.false) } }

pub returns-in-Silent : goal.returns-in-Silent
returns-in-Silent c = no_finding_lem _ _ _ _ _ c.reduce-reduced.ensures c.in-Silent.is

pub returns : goal.returns
returns c =
    has_finding _ _ _ _ _ c.reduce-reduced.ensures c.in_default.not-Silent c.explanation_by.ensures
