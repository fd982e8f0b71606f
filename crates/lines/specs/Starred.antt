-- The starred values of docs/RULES.md that belong to the lines, and the worked job's sheet: what is worked out, beside what is printed.
use Rattle.std.specs.Prelude.{ℕ, ℤ, List, [], ◌∷◌, map, nat_abs, Option, Some, None}
use Rattle.records.specs.Worked.{worked_run}
use Rattle.metering.specs.Metering.{corrected_volume}
use Rattle.stack.specs.Stack.{point_root}
use Rattle.lines.specs.declared.Entry.{Entry}
use Rattle.lines.specs.Sheet.{lines, sheet}

-- a statement over a list: what is worked out is what is expected
pub record Example : Type 0 where
  pub worked : List ℕ
  pub expected : List ℕ

-- a present line's value (the worked job has no absent and no negative one)
abbrev pub value_of : Entry → ℕ
value_of e = go e.line
  where
    go : Option ℤ → ℕ
    go (Some z) = nat_abs z
    go None = 0

-- heads 0, 1, 500 and 10,000
unfoldable pub roots : Example
roots =
    record {
      worked = map point_root (0 ∷ 1 ∷ 500 ∷ 10000 ∷ []);
      expected = 0 ∷ 3162 ∷ 70711 ∷ 316228 ∷ [];
    }

-- V 20,000, T 3,600 and a leak of 20 over the whole time
unfoldable pub leak : Example
leak =
    record {
      worked = corrected_volume 3600 20000 (record { seconds = 3600; leak = 20 } ∷ []) 1 ∷ [];
      expected = 19600 ∷ [];
    }

-- the worked job's twenty lines
unfoldable pub worked_lines : Example
worked_lines =
    record {
      worked = map value_of (sheet (lines worked_run (Some 10000) (Some 840) (Some (record { first = 250; second = 250; third = 250 })))).entries;
      expected =
          3600 ∷ 40000 ∷ 39400 ∷ 301471 ∷ 5400 ∷ 38801 ∷ 4707 ∷ 10819 ∷ 30160 ∷ 28844
          ∷ 299500 ∷ 6600 ∷ 70711 ∷ 8741 ∷ 44386 ∷ 34089 ∷ 90604 ∷ 9980 ∷ 1056 ∷ 4199 ∷ [];
    }
