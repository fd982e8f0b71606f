-- A file of a version is laid out as that version's table says, with its literal places.
use Prim.Native.Nat.{ℕ, ◌+◌, ◌*◌}
use mathlib.Core.Path.{◌≡◌, refl, sym, ◌∙◌, ap, ap₂}
use mathlib.Core.Bool.{true}
use mathlib.Core.List.{List, [], ◌∷◌, ◌++◌}
use native.Mathlib.Omega.{arith}
use native.Mathlib.Nat.{add_assoc}
use lib.ListN.{drop}
use lib.Seq.{get_or-drop}
use Rattle.fields.specs.Numbers.{byte_at, u16_at, u32_at, i16_at}
use Rattle.fields.specs.Trouble.{Trouble, Clear, Row, field, unless, checks, record_trouble}
use Rattle.fields.proofs.FirstTrouble.{clear_last}
use Rattle.readings.specs.declared.headers.Version.{Version}
use Rattle.readings.specs.declared.headers.Version.TheVariants.{One, Two}
use Rattle.readings.specs.Ranges.{certificate_kind, serial, run_number}
use Rattle.records.specs.declared.Identity.{Identity}
use Rattle.records.specs.declared.Certificate.{Certificate}
use Rattle.records.specs.declared.Counts.{Counts}
use Rattle.records.specs.declared.RunHeader.{RunHeader}
use Rattle.records.specs.InRange.{maker_letters}
use Rattle.opening.specs.Opening.{version_of, certificate_count_of}
use Rattle.heads.specs.Values.{certificate_size, run_header_size, certificate_place, certificate, header, spare_byte}
use Rattle.identities.specs.Identities.{identity_rows}
use Rattle.heads.specs.Rows.{value_rows, certificate_rows, reading_rows, header_rows}
use Rattle.job.specs.Places.{run_start}
use Rattle.demands.specs.Versions.{Layout, LaidOut, identity2, version1, version2}

-- What the definitions say of a version and its table are the same
record Fits (v : Version) (l : Layout) : Type 0 where
  certificate_bytes : certificate_size v ≡ l.certificate_bytes
  place : (k : ℕ) → certificate_place v k ≡ 9 + l.certificate_bytes * k
  of_certificate : (t : List ℕ) → certificate v t ≡ l.certificate t
  certificate_fields : (t : List ℕ) → checks Clear (certificate_rows v (certificate v t)) ≡ checks Clear (l.certificate_fields (l.certificate t))
  header_bytes : run_header_size v ≡ l.header_bytes
  of_header : (t : List ℕ) → header v t ≡ l.header t
  header_fields : (t : List ℕ) → checks Clear (header_rows v (header v t) (spare_byte v t)) ≡ checks Clear (l.header_fields (l.header t) (l.spare t))

-- so a file of the version is laid out by the table
laid_out : (v : Version) (l : Layout) → Fits v l → (s : List ℕ) → version_of s ≡ v → LaidOut l s
unfolding record_trouble run_start
laid_out v l fits s is =
    record {
      certificate = λ k. ap (λ (u : Version). certificate u (drop (certificate_place u k) s)) is ∙ fits.of_certificate _ ∙ ap (λ (at : ℕ). l.certificate (drop at s)) (fits.place k);
      certificate_refused = λ at. rw (is, fits.certificate_bytes, fits.certificate_fields (drop at s));
      first_run = ap (λ (u : Version). certificate_place u (certificate_count_of s)) is ∙ fits.place _;
      header = λ at. ap (λ (u : Version). header u (drop at s)) is ∙ fits.of_header _;
      header_refused = λ at. rw (is, fits.header_bytes, fits.header_fields (drop at s));
      point = λ start i. ap (λ (n : ℕ). start + n + 12 * i) size;
      segment = λ start n i. ap (λ (m : ℕ). start + m + 12 * n.points + 4 * i) size;
      weighing = λ start n i. ap (λ (m : ℕ). start + m + 12 * n.points + 4 * n.segments + 14 * i) size;
      next_run = λ start same.
          ap₂ (λ (m : ℕ) (n : Counts). start + m + 12 * n.points + 4 * n.segments + 14 * n.weighings) size (sym same);
    }
  where
    size : run_header_size (version_of s) ≡ l.header_bytes
    size = ap run_header_size is ∙ fits.header_bytes

-- Version 1

-- a row that is good tells nothing
passed : (t : Trouble) (rs : List Row) (r : Row) (qs : List Row) → r.ok ≡ true → checks t (rs ++ (r ∷ qs)) ≡ checks t (rs ++ qs)
unfolding checks
passed t [] r qs good = rw good (ap (λ (u : Trouble). checks u qs) (clear_last t))
passed t (p ∷ rs) r qs good = passed (unless t p.ok p.number p.place) rs r qs good

-- the rows of an identity without its letter's
abbrev named : ℕ → Identity → List Row
named at id = field at (maker_letters id.maker) ∷ field (at + 3) (serial id.serial) ∷ []

fits_1 : Fits One version1
fits_1 =
    record {
      certificate_bytes = refl;
      place = λ k. omega arith;
      of_certificate = λ t. refl;
      certificate_fields = λ t.
          let c = certificate One t in
          passed Clear (field 0 (certificate_kind c.kind) ∷ named 1 c.identity) _ (value_rows c) refl;
      header_bytes = refl;
      of_header = λ t. refl;
      header_fields = λ t.
          let h = header One t in
          let rest = reading_rows h (spare_byte One t) in
          let meter : List Row = field 0 (run_number h.number) ∷ named 4 h.meter in
          let pitot : List Row = meter ++ named 11 h.pitot in
          let nozzle : List Row = pitot ++ named 18 h.nozzle in
          passed Clear meter _ (identity_rows 11 h.pitot ++ identity_rows 18 h.nozzle ++ rest) refl
          ∙ passed Clear pitot _ (identity_rows 18 h.nozzle ++ rest) refl
          ∙ passed Clear nozzle _ rest refl;
    }

-- a file that says 1 is laid out by the table of version 1: 01's own places, and every letter is none
pub first_version : (s : List ℕ) → u16_at s 3 ≡ 1 → LaidOut version1 s
unfolding version_of
first_version s e = laid_out One version1 fits_1 s (rw e)

-- Version 2

-- numbers behind m bytes
module _ (m : ℕ) (t : List ℕ) where
  byte_behind : (p : ℕ) → byte_at (drop m t) p ≡ byte_at t (m + p)
  byte_behind p = get_or-drop m t p 0

  u16_behind : (p : ℕ) → u16_at (drop m t) p ≡ u16_at t (m + p)
  unfolding u16_at
  u16_behind p = rw (byte_behind p, byte_behind (p + 1), add_assoc m p 1)

  u32_behind : (p : ℕ) → u32_at (drop m t) p ≡ u32_at t (m + p)
  unfolding u32_at
  u32_behind p = rw (u16_behind p, u16_behind (p + 2), add_assoc m p 2)

  i16_behind : (p : ℕ) → i16_at (drop m t) p ≡ i16_at t (m + p)
  unfolding i16_at
  i16_behind p = rw (u16_behind p)

header_2 : (t : List ℕ) → header Two t ≡ version2.header t
header_2 t =
    let u16 = u16_behind 3 t in
    let byte = byte_behind 3 t in
    λ i.
    record {
      number = u16_at t 0;
      day = u16_at t 2;
      meter = identity2 t 4;
      pitot = identity2 t 12;
      nozzle = identity2 t 20;
      pb = u16 25 i;
      pg = i16_behind 3 t 27 i;
      co2 = u16 29 i;
      o2 = u16 31 i;
      first = u32_behind 3 t 33 i;
      last = u32_behind 3 t 37 i;
      water = u16 41 i;
      site = record { shape = byte 43 i; first = u16 44 i; second = u16 46 i; next = u16 48 i; last = u16 50 i };
      acetone = record { residue = u16 52 i; blank = u16 54 i; rinse = u16 56 i; density = u16 58 i };
      counts = record { points = byte 60 i; segments = byte 61 i; weighings = byte 62 i };
    }

certificate_2 : (t : List ℕ) → certificate Two t ≡ version2.certificate t
certificate_2 t =
    let u16 = u16_behind 1 t in
    λ i. record { kind = byte_at t 0; identity = identity2 t 1; day = u16 8 i; first = u16 10 i; second = u16 12 i; third = u16 14 i }

fits_2 : Fits Two version2
fits_2 =
    record {
      certificate_bytes = refl;
      place = λ k. omega arith;
      of_certificate = certificate_2;
      certificate_fields = λ t. ap (λ (c : Certificate). checks Clear (certificate_rows Two c)) (certificate_2 t);
      header_bytes = refl;
      of_header = header_2;
      header_fields = λ t. ap₂ (λ (h : RunHeader) (spare : ℕ). checks Clear (header_rows Two h spare)) (header_2 t) (byte_behind 3 t 63);
    }

-- and one that says 2 by that of version 2, a letter behind each serial
pub second_version : (s : List ℕ) → u16_at s 3 ≡ 2 → LaidOut version2 s
unfolding version_of
second_version s e = laid_out Two version2 fits_2 s (rw e)
