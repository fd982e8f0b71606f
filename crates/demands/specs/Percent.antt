-- Rules 15 and 16 in the words of docs/RULES.md, The findings: by the percent isokinetic before it is rounded.
use Rattle.std.specs.Prelude.{None, ℕ, ◌*◌, ◌^◌, ◌<◌, ◌≡◌, ◌↔◌}
use Rattle.arith.specs.Rounding.{round_div}
use Rattle.readings.specs.declared.headers.Version.{Version}
use Rattle.records.specs.declared.Run.{Run}
use Rattle.lines.specs.Sheet.{always}
use Rattle.choosing.specs.declared.Chosen.{Chosen}
use Rattle.steps.specs.declared.Figure.{Figure}
use Rattle.findings.specs.Listing.{lines_for, Breaks}
use Rattle.demands.specs.Equations.{equation}

-- n, what line 18 divides
abbrev pub dividend : ℕ → ℕ
dividend l17 = 6 * 10 ^ 11 * l17

-- d, what it divides by
abbrev pub divisor : ℕ → ℕ → ℕ → ℕ
divisor l15 l16 l1 = l15 * l16 * l1

-- a run, worked with its chosen certificates in a job of that version, breaks a rule about the whole run
abbrev pub BreaksWhole : Version → Figure → Run → Chosen → ℕ → Type 0
BreaksWhole v fig r ch rule = Breaks fig r ch (lines_for v r ch) rule 0

-- line 18 is present, n / d rounded: 15 is broken exactly when n < 9,000·d, and 16 exactly when n > 11,000·d
pub record JudgedExactly (v : Version) (fig : Figure) (r : Run) (ch : Chosen) : Type 0 where
  pub l1 : ℕ
  pub l15 : ℕ
  pub l16 : ℕ
  pub l17 : ℕ
  pub line1 : equation 1 v r ch ≡ always l1
  pub line15 : equation 15 v r ch ≡ always l15
  pub line16 : equation 16 v r ch ≡ always l16
  pub line17 : equation 17 v r ch ≡ always l17
  pub line18 : equation 18 v r ch ≡ always (round_div (dividend l17) (divisor l15 l16 l1))
  pub fifteen : BreaksWhole v fig r ch 15 ↔ (dividend l17 < 9000 * divisor l15 l16 l1)
  pub sixteen : BreaksWhole v fig r ch 16 ↔ (11000 * divisor l15 l16 l1 < dividend l17)

-- line 18 is absent: neither is broken
pub record NotJudged (v : Version) (fig : Figure) (r : Run) (ch : Chosen) : Type 0 where
  pub line18 : equation 18 v r ch ≡ record { line = None }
  pub fifteen : BreaksWhole v fig r ch 15 → ⊥
  pub sixteen : BreaksWhole v fig r ch 16 → ⊥
