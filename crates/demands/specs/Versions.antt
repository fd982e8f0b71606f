-- Where the fields of a job stand, version by version: the tables of docs/RULES.md, The job file, each with its literal places.
use Rattle.std.specs.Prelude.{ℕ, ◌+◌, ◌*◌, ◌≡◌, List, [], ◌∷◌, drop}
use Rattle.fields.specs.Numbers.{byte_at, u16_at, u32_at, i16_at}
use Rattle.fields.specs.Trouble.{Row, count, field, record_trouble}
use Rattle.readings.specs.Ranges.{certificate_kind, serial, rebuild_letter, run_number, barometer, static_pressure, carbon_dioxide, oxygen, first_reading, last_reading, water, shape, side, second_side, blank_volume, rinse_volume, acetone_density, point_count, segment_count, weighing_count, unused}
use Rattle.records.specs.declared.Identity.{Identity}
use Rattle.records.specs.declared.Certificate.{Certificate}
use Rattle.records.specs.declared.Counts.{Counts}
use Rattle.records.specs.declared.RunHeader.{RunHeader}
use Rattle.records.specs.InRange.{maker_letters}
use Rattle.opening.specs.Opening.{version_of, certificate_count_of}
use Rattle.heads.specs.Values.{certificate_of, header_at}
use Rattle.heads.specs.Rows.{good_first, good_later, certificate_trouble, header_trouble}
use Rattle.parts.specs.Values.{point_place, segment_place, weighing_place}
use Rattle.job.specs.Places.{run_start, next_start}

-- how a version lays a job out: how many bytes a certificate and a run's header have, what they hold from their first byte on, and which of
-- their fields have a range
pub record Layout : Type 0 where
  pub certificate_bytes : ℕ
  pub certificate : List ℕ → Certificate
  pub certificate_fields : Certificate → List Row
  pub header_bytes : ℕ
  pub header : List ℕ → RunHeader
  pub spare : List ℕ → ℕ
  pub header_fields : RunHeader → ℕ → List Row

-- a file is laid out so: certificates from byte 9 on, runs behind them, each field read where the layout has it and refused where the layout has it
pub record LaidOut (l : Layout) (s : List ℕ) : Type 0 where
  pub certificate : (k : ℕ) → certificate_of s k ≡ l.certificate (drop (9 + l.certificate_bytes * k) s)
  pub certificate_refused :
      (at : ℕ)
      → certificate_trouble s at ≡ record_trouble s at l.certificate_bytes (l.certificate_fields (l.certificate (drop at s)))
  pub first_run : run_start s 0 ≡ 9 + l.certificate_bytes * certificate_count_of s
  pub header : (at : ℕ) → header_at s at ≡ l.header (drop at s)
  pub header_refused :
      (at : ℕ)
      → header_trouble s at ≡ record_trouble s at l.header_bytes (l.header_fields (l.header (drop at s)) (l.spare (drop at s)))
  pub point : (start i : ℕ) → point_place (version_of s) start i ≡ start + l.header_bytes + 12 * i
  pub segment : (start : ℕ) (n : Counts) (i : ℕ) → segment_place (version_of s) start n i ≡ start + l.header_bytes + 12 * n.points + 4 * i
  pub weighing :
      (start : ℕ) (n : Counts) (i : ℕ)
      → weighing_place (version_of s) start n i ≡ start + l.header_bytes + 12 * n.points + 4 * n.segments + 14 * i
  pub next_run :
      (start : ℕ) {n : Counts}
      → n ≡ (header_at s start).counts
      → next_start s start ≡ start + l.header_bytes + 12 * n.points + 4 * n.segments + 14 * n.weighings

-- Version 1: maker and serial, and the letter is none

abbrev pub identity1 : List ℕ → ℕ → Identity
identity1 t at =
    record {
      maker = record { first = byte_at t at; second = byte_at t (at + 1); third = byte_at t (at + 2) };
      serial = u32_at t (at + 3);
      letter = 0;
    }

abbrev pub version1 : Layout
version1 =
    record {
      certificate_bytes = 16;
      certificate = λ t.
          record { kind = byte_at t 0; identity = identity1 t 1; day = u16_at t 8; first = u16_at t 10; second = u16_at t 12; third = u16_at t 14 };
      certificate_fields = λ c.
          field 0 (certificate_kind c.kind)
          ∷ field 1 (maker_letters c.identity.maker)
          ∷ field 4 (serial c.identity.serial)
          ∷ field 10 (good_first c.kind c.first)
          ∷ field 12 (good_later c.kind c.second)
          ∷ field 14 (good_later c.kind c.third)
          ∷ [];
      header_bytes = 64;
      header = λ t.
          record {
            number = u16_at t 0;
            day = u16_at t 2;
            meter = identity1 t 4;
            pitot = identity1 t 11;
            nozzle = identity1 t 18;
            pb = u16_at t 25;
            pg = i16_at t 27;
            co2 = u16_at t 29;
            o2 = u16_at t 31;
            first = u32_at t 33;
            last = u32_at t 37;
            water = u16_at t 41;
            site = record { shape = byte_at t 43; first = u16_at t 44; second = u16_at t 46; next = u16_at t 48; last = u16_at t 50 };
            acetone = record { residue = u16_at t 52; blank = u16_at t 54; rinse = u16_at t 56; density = u16_at t 58 };
            counts = record { points = byte_at t 60; segments = byte_at t 61; weighings = byte_at t 62 };
          };
      spare = λ t. byte_at t 63;
      header_fields = λ h spare.
          field 0 (run_number h.number)
          ∷ field 4 (maker_letters h.meter.maker)
          ∷ field 7 (serial h.meter.serial)
          ∷ field 11 (maker_letters h.pitot.maker)
          ∷ field 14 (serial h.pitot.serial)
          ∷ field 18 (maker_letters h.nozzle.maker)
          ∷ field 21 (serial h.nozzle.serial)
          ∷ field 25 (barometer h.pb)
          ∷ field 27 (static_pressure h.pg)
          ∷ field 29 (carbon_dioxide h.co2)
          ∷ field 31 (oxygen h.co2 h.o2)
          ∷ field 33 (first_reading h.first)
          ∷ field 37 (last_reading h.first h.last)
          ∷ field 41 (water h.water)
          ∷ field 43 (shape h.site.shape)
          ∷ field 44 (side h.site.first)
          ∷ field 46 (second_side h.site.shape h.site.second)
          ∷ field 54 (blank_volume h.acetone.blank)
          ∷ field 56 (rinse_volume h.acetone.rinse)
          ∷ field 58 (acetone_density h.acetone.density)
          ∷ count 60 (point_count h.counts.points)
          ∷ count 61 (segment_count h.counts.segments)
          ∷ count 62 (weighing_count h.counts.weighings)
          ∷ field 63 (unused spare)
          ∷ [];
    }

-- Version 2: a letter behind each serial

abbrev pub identity2 : List ℕ → ℕ → Identity
identity2 t at =
    record {
      maker = record { first = byte_at t at; second = byte_at t (at + 1); third = byte_at t (at + 2) };
      serial = u32_at t (at + 3);
      letter = byte_at t (at + 7);
    }

abbrev pub version2 : Layout
version2 =
    record {
      certificate_bytes = 17;
      certificate = λ t.
          record { kind = byte_at t 0; identity = identity2 t 1; day = u16_at t 9; first = u16_at t 11; second = u16_at t 13; third = u16_at t 15 };
      certificate_fields = λ c.
          field 0 (certificate_kind c.kind)
          ∷ field 1 (maker_letters c.identity.maker)
          ∷ field 4 (serial c.identity.serial)
          ∷ field 8 (rebuild_letter c.identity.letter)
          ∷ field 11 (good_first c.kind c.first)
          ∷ field 13 (good_later c.kind c.second)
          ∷ field 15 (good_later c.kind c.third)
          ∷ [];
      header_bytes = 67;
      header = λ t.
          record {
            number = u16_at t 0;
            day = u16_at t 2;
            meter = identity2 t 4;
            pitot = identity2 t 12;
            nozzle = identity2 t 20;
            pb = u16_at t 28;
            pg = i16_at t 30;
            co2 = u16_at t 32;
            o2 = u16_at t 34;
            first = u32_at t 36;
            last = u32_at t 40;
            water = u16_at t 44;
            site = record { shape = byte_at t 46; first = u16_at t 47; second = u16_at t 49; next = u16_at t 51; last = u16_at t 53 };
            acetone = record { residue = u16_at t 55; blank = u16_at t 57; rinse = u16_at t 59; density = u16_at t 61 };
            counts = record { points = byte_at t 63; segments = byte_at t 64; weighings = byte_at t 65 };
          };
      spare = λ t. byte_at t 66;
      header_fields = λ h spare.
          field 0 (run_number h.number)
          ∷ field 4 (maker_letters h.meter.maker)
          ∷ field 7 (serial h.meter.serial)
          ∷ field 11 (rebuild_letter h.meter.letter)
          ∷ field 12 (maker_letters h.pitot.maker)
          ∷ field 15 (serial h.pitot.serial)
          ∷ field 19 (rebuild_letter h.pitot.letter)
          ∷ field 20 (maker_letters h.nozzle.maker)
          ∷ field 23 (serial h.nozzle.serial)
          ∷ field 27 (rebuild_letter h.nozzle.letter)
          ∷ field 28 (barometer h.pb)
          ∷ field 30 (static_pressure h.pg)
          ∷ field 32 (carbon_dioxide h.co2)
          ∷ field 34 (oxygen h.co2 h.o2)
          ∷ field 36 (first_reading h.first)
          ∷ field 40 (last_reading h.first h.last)
          ∷ field 44 (water h.water)
          ∷ field 46 (shape h.site.shape)
          ∷ field 47 (side h.site.first)
          ∷ field 49 (second_side h.site.shape h.site.second)
          ∷ field 57 (blank_volume h.acetone.blank)
          ∷ field 59 (rinse_volume h.acetone.rinse)
          ∷ field 61 (acetone_density h.acetone.density)
          ∷ count 63 (point_count h.counts.points)
          ∷ count 64 (segment_count h.counts.segments)
          ∷ count 65 (weighing_count h.counts.weighings)
          ∷ field 66 (unused spare)
          ∷ [];
    }
