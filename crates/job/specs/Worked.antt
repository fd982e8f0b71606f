-- The worked job of docs/RULES.md, byte for byte and value for value, in either version, and small files that are refused.
use Rattle.std.specs.Prelude.{ℕ, zero, suc, ◌+◌, ◌-◌, ◌/◌, ◌%◌, List, [], ◌∷◌, ◌++◌, replicate}
use Rattle.fields.specs.Trouble.{Trouble, At}
use Rattle.readings.specs.declared.headers.Version.{Version}
use Rattle.readings.specs.declared.headers.Version.TheVariants.{One, Two}
use Rattle.readings.specs.Ranges.{no_letter}
use Rattle.opening.specs.Opening.{letters}
use Rattle.job.specs.declared.Job.{Job}

-- Bytes

abbrev pub le16 : ℕ → List ℕ
le16 v = v % 256 ∷ v / 256 ∷ []

abbrev pub le32 : ℕ → List ℕ
le32 v = le16 (v % 65536) ++ le16 (v / 65536)

-- v below zero, in two's complement
abbrev pub minus16 : ℕ → List ℕ
minus16 v = le16 (65536 - v)

-- the same bytes n times
abbrev pub times : ℕ → List ℕ → List ℕ
times zero bytes = []
times (suc n) bytes = bytes ++ times n bytes

-- maker ABC, a serial, and in version 2 a letter behind it
abbrev pub abc_bytes : ℕ → List ℕ → List ℕ
abc_bytes serial letter = (65 ∷ 66 ∷ 67 ∷ []) ++ le32 serial ++ letter

-- "SRJ", the version, and how many certificates and runs
abbrev pub header_bytes : ℕ → ℕ → ℕ → List ℕ
header_bytes version certificates runs = (83 ∷ 82 ∷ 74 ∷ []) ++ le16 version ++ le16 certificates ++ le16 runs

-- kind, an identity's bytes, day and values
abbrev pub certificate_bytes : ℕ → List ℕ → ℕ → ℕ → ℕ → ℕ → List ℕ
certificate_bytes kind identity day first second third = (kind ∷ []) ++ identity ++ le16 day ++ le16 first ++ le16 second ++ le16 third

-- a version's number
abbrev pub version_number : Version → ℕ
version_number One = 1
version_number Two = 2

-- maker ABC and a serial, without a letter
abbrev pub plain : Version → ℕ → List ℕ
plain v serial = abc_bytes serial (replicate (letters v 1) no_letter)

-- The worked job, the later factor of its meter `after`, the last disturbance so far off, so many points of so many seconds each, its one
-- segment lasting `seconds`
abbrev pub varied : Version → ℕ → ℕ → ℕ → ℕ → ℕ → List ℕ
varied v after last points each seconds =
    header_bytes (version_number v) 4 1
    ++ certificate_bytes 1 (plain v 10442) 8990 10000 0 0
    ++ certificate_bytes 1 (plain v 10442) 9020 after 0 0
    ++ certificate_bytes 2 (plain v 1) 8990 840 0 0
    ++ certificate_bytes 3 (plain v 2) 8990 250 250 250
    -- run 7, day 9000, meter, pitot, nozzle
    ++ (le16 7 ++ le16 9000 ++ plain v 10442 ++ plain v 1 ++ plain v 2)
    -- Pb, Pg, CO2, O2, readings, water
    ++ (le16 3000 ++ minus16 68 ++ le16 120 ++ le16 60 ++ le32 100000 ++ le32 140000 ++ le16 1000)
    -- round, its sides, the distances
    ++ ((1 ∷ []) ++ le16 240 ++ le16 0 ++ le16 480 ++ le16 last)
    -- acetone
    ++ (le16 8 ++ le16 200 ++ le16 100 ++ le16 7851)
    -- points, one segment, two weighings
    ++ (points ∷ 1 ∷ 2 ∷ 0 ∷ [])
    ++ times points (le16 each ++ le16 500 ++ le16 200 ++ le16 2000 ++ le16 800 ++ le16 800)
    ++ (le16 seconds ++ le16 30)
    ++ ((1 ∷ 0 ∷ []) ++ le32 4000 ++ le32 4912 ++ le32 4910)
    ++ ((2 ∷ 0 ∷ []) ++ le32 1000000 ++ le32 1000153 ++ le32 1000150)

abbrev pub worked_job : Version → List ℕ
worked_job v = varied v 9800 1920 8 450 3600

-- its segment lasting so long
abbrev pub lasting : Version → ℕ → List ℕ
lasting v seconds = varied v 9800 1920 8 450 seconds

-- its meter's factor moved by more than 5 percent, downwards
abbrev pub moved_job : Version → List ℕ
moved_job v = varied v 9499 1920 8 450 3600

-- its last disturbance nearer than eight diameters, with so many points in the same time
abbrev pub near_job : ℕ → ℕ → List ℕ
near_job points each = varied One 9800 1919 points each 3600

-- How many certificates and runs it is read to hold, and where its run starts

abbrev pub worked_read : Version → Job
worked_read v =
    record {
      certificates = 4;
      runs = 1;
      starts = (73 + letters v 4) ∷ replicate 15 0;
    }

-- Refusals

-- a file and its first trouble
pub record Refusal : Type 0 where
  pub file : List ℕ
  pub trouble : Trouble

abbrev pub refusal : List ℕ → ℕ → ℕ → Refusal
refusal file number place = record { file = file; trouble = At number place }

-- a pitot tube's certificate in version 2, by its letter
abbrev pub lettered : ℕ → List ℕ
lettered letter = certificate_bytes 2 (abc_bytes 1 (letter ∷ [])) 8990 840 0 0

-- a file for each refusal number, and the empty file first
abbrev pub refusals : List Refusal
refusals =
    refusal [] 1 0
    ∷ refusal (83 ∷ 82 ∷ 73 ∷ replicate 6 0) 2 0
    ∷ refusal (header_bytes 0 0 1) 3 3
    ∷ refusal (header_bytes 3 0 1) 3 3
    ∷ refusal (header_bytes 1 65 1) 4 5
    ∷ refusal (header_bytes 1 0 0) 4 7
    ∷ refusal (header_bytes 1 0 1 ++ replicate 64 0) 5 9
    ∷ refusal (header_bytes 1 2 1 ++ times 2 (certificate_bytes 2 (plain One 1) 8990 840 0 0)) 6 25
    ∷ refusal (lasting One 3599) 7 73
    ∷ refusal (worked_job One ++ (0 ∷ [])) 8 265
    -- version 2: a run cut short, a letter that is none, a certificate again, two that differ by the letter alone and a run missing
    ∷ refusal (header_bytes 2 0 1 ++ replicate 66 0) 1 75
    ∷ refusal (header_bytes 2 1 1 ++ lettered 97) 5 17
    ∷ refusal (header_bytes 2 2 1 ++ times 2 (lettered 65)) 6 26
    ∷ refusal (header_bytes 2 2 1 ++ lettered 65 ++ lettered 66) 1 43
    ∷ refusal (lasting Two 3599) 7 77
    ∷ refusal (worked_job Two ++ (0 ∷ [])) 8 272
    ∷ []
