-- The twenty lines of a sheet as characters: number, value and the end of the line.
use Rattle.std.specs.Prelude.{Option, Some, None, ℤ, ℕ, ◌+◌, List, [], ◌∷◌, ◌++◌, get_or}
use Rattle.lines.specs.declared.Entry.{Entry}
use Rattle.lines.specs.declared.Sheet.{Sheet}
use Rattle.lines.specs.Sheet.{no_entry, line_count}
use Rattle.characters.specs.Numbers.{decimal, signed_decimal}
use Rattle.output.specs.Bytes.{joined}

-- a space, a dash, the end of a line
abbrev pub space : List ℕ
space = 32 ∷ []

abbrev pub dash : List ℕ
dash = 45 ∷ []

abbrev pub newline : List ℕ
newline = 10 ∷ []

-- a line's value, or a dash where it is absent
unfoldable pub value_text : Option ℤ → List ℕ
value_text (Some z) = signed_decimal z
value_text None = dash

-- a line: its number, a space, its value
unfoldable pub line_text : ℕ → Entry → List ℕ
line_text number entry = decimal number ++ space ++ value_text entry.line ++ newline

-- the line of the entry at an index
abbrev pub line_at : List Entry → ℕ → List ℕ
line_at entries i = line_text (i + 1) (get_or entries i no_entry)

-- all twenty
unfoldable pub sheet_text : Sheet → List ℕ
sheet_text sheet = joined (line_at sheet.entries) line_count
