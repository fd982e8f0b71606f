-- Each entry is its call's promise; the catch is read back from its bits.
use Rattle.std.specs.Prelude.{Some}
use borrow.Author.Rules.{rules}
use mathlib.Core.List.{[], ◌∷◌}
use mathlib.Core.Path.{◌∙◌, ap}
use mir.Facts.{to_z-of_z}
use Rattle.values.specs.Signed.{add_scaled}
use Rattle.sampling.proofs.Difference.{catch_fits}
use Rattle.lines.specs.Sheet.{if_known, sheet}
use Rattle.lines.proofs.sheets.sheet.Goals as goal

pub always-requires-5 : goal.always-requires-5
unfolding add_scaled
always-requires-5 c = search rules

pub returns : goal.returns
unfolding sheet
returns c =
    λ i.
    record {
      entries =
          c.always.ensures i
          ∷ c.always-2.ensures i
          ∷ c.always-3.ensures i
          ∷ c.always-4.ensures i
          ∷ c.always-5.ensures i
          ∷ c.if_known.ensures i
          ∷ c.always-6.ensures i
          ∷ c.if_known-2.ensures i
          ∷ c.always-7.ensures i
          ∷ c.if_known-3.ensures i
          ∷ c.always-8.ensures i
          ∷ c.always-9.ensures i
          ∷ c.always-10.ensures i
          ∷ c.if_known-4.ensures i
          ∷ c.if_known-5.ensures i
          ∷ c.if_known-6.ensures i
          ∷ c.if_known-7.ensures i
          ∷ (c.if_known-8.ensures ∙ ap if_known c.rounded.ensures) i
          ∷ record { line = Some (to_z-of_z (catch_fits _ c.requires.sampling.catch) i) }
          ∷ c.if_known-9.ensures i
          ∷ [];
    }
