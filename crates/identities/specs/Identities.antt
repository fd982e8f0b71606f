-- What an identity in a job file holds, which goes by the file's version, the fields of it that have a range, and what stands behind it.
use Rattle.std.specs.Prelude.{ℕ, ◌+◌, List, [], ◌∷◌, drop}
use Rattle.fields.specs.Numbers.{byte_at, u32_at}
use Rattle.fields.specs.Trouble.{Row, field}
use Rattle.readings.specs.declared.headers.Version.{Version}
use Rattle.readings.specs.declared.headers.Version.TheVariants.{One, Two}
use Rattle.readings.specs.Ranges.{no_letter, serial, rebuild_letter}
use Rattle.records.specs.declared.Identity.{Identity}
use Rattle.records.specs.InRange.{maker_letters}
use Rattle.opening.specs.Opening.{letters}

-- the letter at a place of a record, which only version 2 has
abbrev pub letter_at : Version → List ℕ → ℕ → ℕ
letter_at One t at = no_letter
letter_at Two t at = byte_at t at

-- maker, 3 letters, serial u32 and letter, at a place of a record
abbrev pub identity : Version → List ℕ → ℕ → Identity
identity v t at =
    record {
      maker = record { first = byte_at t at; second = byte_at t (at + 1); third = byte_at t (at + 2) };
      serial = u32_at t (at + 3);
      letter = letter_at v t (at + 7);
    }

-- a record without the bytes of as many letters as n identities have: a field behind them has its place of version 1 there
abbrev pub behind : Version → ℕ → List ℕ → List ℕ
behind v n t = drop (letters v n) t

-- maker, serial and letter, as in a certificate, at a place of a record; a letter that the version does not have is none, and good
abbrev pub identity_rows : ℕ → Identity → List Row
identity_rows at id =
    field at (maker_letters id.maker)
    ∷ field (at + 3) (serial id.serial)
    ∷ field (at + 7) (rebuild_letter id.letter)
    ∷ []
