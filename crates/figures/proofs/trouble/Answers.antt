-- Mark and version, both lists, and nothing behind them.
use Prim.Native.Nat.{ℕ}
use mathlib.Core.Path.{ap₂, ◌∙◌}
use mathlib.Core.List.{List}
use Rattle.fields.specs.Trouble.{Trouble, Clear, checks}
use Rattle.fields.proofs.Refusals.{refuses, passes}
use Rattle.figures.specs.Figures.{list_rows, list_end}
use Rattle.figures.proofs.Parts.{figure_parts}
use Rattle.figures.proofs.trouble.Goals as goal

-- a list's trouble, by where it stands in which file
abbrev by : List ℕ → ℕ → Trouble
by s at = checks Clear (list_rows s at)

pub returns-in_err-opening_trouble : goal.returns-in_err-opening_trouble
returns-in_err-opening_trouble c =
    rw (figure_parts c.args.s.now) (refuses _ _ _ c.from_residual.ensures.1 c.in_err-opening_trouble.ensures)

pub returns-in_err-trouble : goal.returns-in_err-trouble
returns-in_err-trouble c =
    rw (figure_parts c.args.s.now)
    (passes c.in_ok-opening_trouble.ensures
    (refuses _ _ _ c.from_residual-in_err-trouble.ensures.1 (c.in_err-trouble.ensures ∙ ap₂ by c.list_from_last.ensures.0 c.list_from_last.ensures.1)))

pub returns-in_err-trouble-2 : goal.returns-in_err-trouble-2
returns-in_err-trouble-2 c =
    rw (figure_parts c.args.s.now)
    (passes c.in_ok-opening_trouble.ensures
    (passes (c.in_ok-trouble.ensures ∙ ap₂ by c.list_from_last.ensures.0 c.list_from_last.ensures.1)
    (refuses _ _ _ c.from_residual-in_err-trouble-2.ensures.1 (c.in_err-trouble-2.ensures ∙ ap₂ by c.list_to_next-next.ensures.0 c.list_to_next-next.ensures.1))))

pub returns : goal.returns
returns c =
    let end = c.end-end.ensures.end ∙ ap₂ list_end c.list_to_next-next.ensures.0 c.list_to_next-next.ensures.1 in
    rw (figure_parts c.args.s.now)
    (passes c.in_ok-opening_trouble.ensures
    (passes (c.in_ok-trouble.ensures ∙ ap₂ by c.list_from_last.ensures.0 c.list_from_last.ensures.1)
    (passes (c.in_ok-trouble-2.ensures ∙ ap₂ by c.list_to_next-next.ensures.0 c.list_to_next-next.ensures.1)
    (rw (← end) c.row.ensures))))
