-- What is sought of a run: all of its findings, or what stands behind one of them (docs/RULES.md, A finding explained).
use Rattle.std.specs.Prelude.{ℕ, ◌-◌, ◌≤◌, ◌<◌, Bool, cond, ◌&&◌, List, ltb, eqb}
use Rattle.readings.specs.declared.headers.Version.{Version}
use Rattle.records.specs.declared.Counts.{Counts}
use Rattle.records.specs.declared.Run.{Run}
use Rattle.lines.specs.declared.Lines.{Lines}
use Rattle.choosing.specs.declared.Chosen.{Chosen}
use Rattle.steps.specs.declared.Figure.{Figure}
use Rattle.grounds.specs.declared.Ground.{Ground}
use Rattle.grounds.specs.declared.Ground.TheVariants.{Silent}
use Rattle.grounds.specs.Grounds.{broken}
use Rattle.classes.specs.Classes.{places_of, place_at}
use Rattle.rules.specs.Rules.{last_rule, ground_of}
use Rattle.findings.specs.Listing.{part_of, beside_of, broken_at, rule_findings, findings, listed}
use Rattle.findings.specs.declared.Finding.{Finding}
use Rattle.findings.specs.declared.Sought.{Sought}
use Rattle.findings.specs.declared.Sought.TheVariants.{All, Why}
use Rattle.findings.specs.declared.Walked.{Walked}

-- the index of a place among those of its rule, counted from 0: one less, and 0 for the whole run
abbrev pub index_of : ℕ → ℕ
index_of place = place - 1

-- a rule speaks of a place
abbrev pub speaks_of : Counts → ℕ → ℕ → Bool
speaks_of n rule place = ltb (index_of place) (places_of n rule) && eqb place (place_at rule (index_of place))

-- what a rule goes by at a place; a rule that does not speak of it goes by nothing there
unfoldable pub ground_at : Figure → Run → Chosen → Lines → ℕ → ℕ → Ground
ground_at fig r ch l rule place =
    cond (speaks_of r.header.counts rule place) (ground_of (part_of r rule (index_of place)) (beside_of fig r ch l) rule) Silent

-- a ground that breaks its rule, and nothing for any other
abbrev pub if_broken : Ground → Ground
if_broken g = cond (broken g) g Silent

-- how many rules stand before those that are looked at
abbrev pub before_of : Sought → ℕ
before_of All = 0
before_of (Why rule place) = rule - 1

-- and which is the last of them
abbrev pub last_of : Sought → ℕ
last_of All = last_rule
last_of (Why rule place) = rule

-- what is sought is of rules that there are
pub record Seekable (sought : Sought) : Type 0 where
  pub some : before_of sought < last_of sought
  pub last : last_of sought ≤ last_rule

-- the place that is sought; where all findings are, one that none of them has
abbrev pub place_of : Sought → ℕ
place_of All = 65535
place_of (Why rule place) = place

-- the findings that are listed: all; or those of the rule, up to the one sought if the run has it
abbrev pub list_for : Sought → Version → Figure → Run → Chosen → Lines → List Finding
list_for All v fig r ch l = findings v fig r ch l
list_for (Why rule place) v fig r ch l =
    rule_findings v (broken_at fig r ch l rule) rule
    (cond (broken (ground_at fig r ch l rule place)) (index_of place) (places_of r.header.counts rule))

-- what the rule of the one sought goes by, if the run has it
abbrev pub ground_kept : Sought → Figure → Run → Chosen → Lines → Ground
ground_kept All fig r ch l = Silent
ground_kept (Why rule place) fig r ch l = if_broken (ground_at fig r ch l rule place)

-- What the walk over the rules comes to
abbrev pub walked : Sought → Version → Figure → Run → Chosen → Lines → Walked
walked sought v fig r ch l = record { findings = listed (list_for sought v fig r ch l); basis = ground_kept sought fig r ch l }
