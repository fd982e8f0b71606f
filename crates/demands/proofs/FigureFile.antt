-- A figure file: in trouble by the first row of its table that is not good, and good where all are.
use Prim.Native.Nat.{ℕ, ◌^◌, ◌<◌}
use mathlib.Core.Path.{◌≡◌, refl, sym, ◌∙◌, ap, subst}
use mathlib.Core.Bool.{true, ◌&&◌}
use mathlib.Core.List.{List}
use native.Mathlib.Omega.{arith}
use borrow.Author.Tests.{leb-true, eqb-true}
use lib.Dec.{leb, eqb}
use Rattle.fields.specs.Trouble.{Clear, At, checks}
use Rattle.fields.proofs.FirstTrouble.{told, checks_clear, clear_not_at}
use Rattle.readings.proofs.Ranges.{both_left, both_right}
use Rattle.figures.specs.Figures.{longest_figure, figure_rows, figure_trouble}
use Rattle.figures.proofs.Clear.{fourteen_by, figure_told, read_trouble}
use Rattle.demands.specs.FigureFile.{Lent, no_file, file, supplied, GoodLent}
use Rattle.demands.specs.Table.{FirstBad}
use Rattle.demands.proofs.Troubles.{checks_bad, bad_checks, good_checks}

-- Good: in no trouble

pub lent_clear : (l : Lent) → GoodLent l → (supplied l).trouble ≡ Clear
unfolding figure_trouble
lent_clear no_file good = refl
lent_clear (file f) good = read_trouble f ∙ good_checks (figure_rows f) good

pub clear_lent : (l : Lent) → (supplied l).trouble ≡ Clear → GoodLent l
unfolding figure_trouble
clear_lent no_file e = tt
clear_lent (file f) e = checks_clear (figure_rows f) (sym (read_trouble f) ∙ e)

-- Bad: the trouble of its first bad row

pub bad_file : (l : Lent) (f : List ℕ) → l ≡ file f → {p : ℕ} → FirstBad 14 p (figure_rows f) → (supplied l).trouble ≡ At 14 p
unfolding figure_trouble
bad_file l f is bad = ap (λ m. (supplied m).trouble) is ∙ read_trouble f ∙ bad_checks bad

-- a file in trouble: 14, at the place of its first bad row, which is near
pub record BadLent (l : Lent) (n p : ℕ) : Type 0 where
  pub bytes : List ℕ
  pub is : l ≡ file bytes
  pub number : n ≡ 14
  pub bad : FirstBad 14 p (figure_rows bytes)
  pub near : p < 2 ^ 32

pub bad_lent : (l : Lent) {n p : ℕ} → (supplied l).trouble ≡ At n p → BadLent l n p
unfolding figure_trouble
bad_lent no_file e = clear_not_at refl e
bad_lent (file f) {n} {p} e =
    let met : checks Clear (figure_rows f) ≡ At n p = sym (read_trouble f) ∙ e in
    let known : (eqb n 14 && leb p longest_figure) ≡ true = subst (λ t. told (fourteen_by longest_figure) t ≡ true) met (figure_told f) in
    let number : n ≡ 14 = eqb-true n 14 (both_left _ _ known) in
    record {
      bytes = f;
      is = refl;
      number = number;
      bad = subst (λ (m : ℕ). FirstBad m p (figure_rows f)) number (checks_bad (figure_rows f) met);
      near = omega (arith, leb-true p longest_figure (both_right (eqb n 14) _ known));
    }
