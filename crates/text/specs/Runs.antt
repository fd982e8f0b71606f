-- The findings of a run and a run as a whole, as characters (docs/RULES.md, The printed text).
use Rattle.std.specs.Prelude.{ℕ, Bool, cond, List, ◌++◌, eqb, get_or}
use Rattle.findings.specs.declared.Finding.{Finding}
use Rattle.findings.specs.Listing.{no_finding}
use Rattle.classes.specs.Classes.{fault}
use Rattle.reduction.specs.declared.Reduced.{Reduced}
use Rattle.characters.specs.Numbers.{decimal}
use Rattle.characters.specs.Words.{spelled}
use Rattle.output.specs.Bytes.{joined}
use Rattle.text.specs.Sheets.{space, newline, sheet_text}

-- what a finding is, by its class
unfoldable pub class_name : ℕ → List ℕ
class_name class = cond (eqb class fault) (spelled "FAULT ") (spelled "NOTE ")

-- a finding: NOTE or FAULT, rule, place
unfoldable pub finding_text : Finding → List ℕ
finding_text f = class_name f.class ++ decimal f.rule ++ space ++ decimal f.place ++ newline

-- the first n findings
unfoldable pub findings_text : List Finding → ℕ → List ℕ
findings_text fs n = joined (λ i. finding_text (get_or fs i no_finding)) n

-- whether a run stands, and the end of the line
unfoldable pub standing : Bool → List ℕ
standing accepted = cond accepted (spelled " ACCEPTED\n") (spelled " VOID\n")

-- what a run's first line begins with
abbrev pub run_word : List ℕ
run_word = spelled "RUN "

-- A run: its number, ACCEPTED or VOID; its twenty lines; its findings
unfoldable pub run_text : Reduced → List ℕ
run_text r =
    run_word ++ decimal r.number ++ standing r.accepted ++ sheet_text r.sheet
    ++ findings_text r.findings.list r.findings.count
