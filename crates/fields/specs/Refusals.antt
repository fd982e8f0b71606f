-- What the code answers of a file, read as trouble.
use Rattle.std.specs.Prelude.{Result, Ok, Err}
use Rattle.fields.specs.declared.trouble.BadFile.{BadFile}
use Rattle.fields.specs.Trouble.{Trouble, Clear, At}

-- the trouble that an answer tells
abbrev pub trouble_of : {A : Type 0} → Result A BadFile → Trouble
trouble_of (Ok a) = Clear
trouble_of (Err e) = At e.number e.place
