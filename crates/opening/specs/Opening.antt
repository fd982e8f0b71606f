-- The header of a job file (docs/RULES.md, Header): mark, version, and how many certificates and runs follow; and what the version
-- says of the records behind it.
use Rattle.std.specs.Prelude.{ℕ, Bool, cond, ◌&&◌, List, [], ◌∷◌, eqb}
use Rattle.fields.specs.Numbers.{byte_at, u16_at}
use Rattle.fields.specs.Trouble.{Trouble, wrong_mark, wrong_version, Row, count, record_trouble}
use Rattle.readings.specs.declared.headers.Version.{Version}
use Rattle.readings.specs.declared.headers.Version.TheVariants.{One, Two}
use Rattle.readings.specs.Ranges.{version, certificate_count, run_count}

-- how many bytes it has
abbrev pub file_header_size : ℕ
file_header_size = 9

-- "SRJ"
abbrev pub marked : List ℕ → Bool
marked s = eqb (byte_at s 0) 83 && (eqb (byte_at s 1) 82 && eqb (byte_at s 2) 74)

-- the version that it says
unfoldable pub version_of : List ℕ → Version
version_of s = cond (eqb (u16_at s 3) 2) Two One

-- how many letters n identities have: one each in version 2, none in version 1. A field that stands behind so many identities
-- stands so much further along
abbrev pub letters : Version → ℕ → ℕ
letters One n = 0
letters Two n = n

-- how many certificates and how many runs it announces
abbrev pub certificate_count_of : List ℕ → ℕ
certificate_count_of s = u16_at s 5

abbrev pub run_count_of : List ℕ → ℕ
run_count_of s = u16_at s 7

-- Header, 9 bytes
abbrev pub file_rows : List ℕ → List Row
file_rows s =
    record { number = wrong_mark; place = 0; ok = marked s }
    ∷ record { number = wrong_version; place = 3; ok = version (u16_at s 3) }
    ∷ count 5 (certificate_count (certificate_count_of s))
    ∷ count 7 (run_count (run_count_of s))
    ∷ []

abbrev pub file_trouble : List ℕ → Trouble
file_trouble s = record_trouble s 0 file_header_size (file_rows s)
