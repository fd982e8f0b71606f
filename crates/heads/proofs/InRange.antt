-- A certificate and a run header without trouble are in range, field by field.
use Prim.Native.Nat.{ℕ}
use mathlib.Core.Path.{◌≡◌, subst}
use mathlib.Core.Bool.{true}
use mathlib.Core.List.{List}
use lib.ListN.{drop}
use Rattle.opening.specs.Opening.{version_of}
use Rattle.fields.specs.Trouble.{Clear}
use Rattle.fields.proofs.RecordTrouble.{good_at}
use Rattle.records.specs.InRange.{CertificateOk, HeaderOk}
use Rattle.heads.specs.Values.{certificate_size, run_header_size, spare_byte, certificate_at, header_at}
use Rattle.heads.specs.Rows.{good_first, good_later, certificate_rows, header_rows, certificate_trouble, header_trouble}

pub certificate_ok : (s : List ℕ) (at : ℕ) → certificate_trouble s at ≡ Clear → CertificateOk (certificate_at s at)
certificate_ok s at e =
    let c = certificate_at s at in
    let v = version_of s in
    let good = good_at s at (certificate_size v) (certificate_rows v c) e in
    let values = good.1.1.1.1 in
    let first : good_first c.kind c.first ≡ true = values.0 in
    let second : good_later c.kind c.second ≡ true = values.1.0 in
    let third : good_later c.kind c.third ≡ true = values.1.1.0 in
    record {
      kind = good.0;
      maker = good.1.0;
      serial = good.1.1.0;
      letter = good.1.1.1.0;
      factor = λ k. subst (λ (n : ℕ). good_first n c.first ≡ true) k first;
      coefficient = λ k. subst (λ (n : ℕ). good_first n c.first ≡ true) k first;
      diameters = λ k.
          record {
            first = subst (λ (n : ℕ). good_first n c.first ≡ true) k first;
            second = subst (λ (n : ℕ). good_later n c.second ≡ true) k second;
            third = subst (λ (n : ℕ). good_later n c.third ≡ true) k third;
          };
    }

pub header_ok : (s : List ℕ) (at : ℕ) → header_trouble s at ≡ Clear → HeaderOk (header_at s at)
header_ok s at e =
    let v = version_of s in
    let good = good_at s at (run_header_size v) (header_rows v (header_at s at) (spare_byte v (drop at s))) e in
    let later = good.1.1.1.1.1.1.1.1.1.1 in
    let stack = later.1.1.1.1.1.1.1 in
    let acetone = stack.1.1.1 in
    let counts = acetone.1.1.1 in
    record {
      number = good.0;
      pb = later.0;
      pg = later.1.0;
      co2 = later.1.1.0;
      o2 = later.1.1.1.0;
      first = later.1.1.1.1.0;
      last = later.1.1.1.1.1.0;
      water = later.1.1.1.1.1.1.0;
      site = record { shape = stack.0; first = stack.1.0; second = stack.1.1.0 };
      acetone = record { blank = acetone.0; rinse = acetone.1.0; density = acetone.1.1.0 };
      points = counts.0;
      segments = counts.1.0;
      weighings = counts.1.1.0;
    }
