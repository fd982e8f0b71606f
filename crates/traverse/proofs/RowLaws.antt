-- The rows of a rectangular layout as a loop fills them: whole rows, and the beginning of the next one.
use Prim.Native.Nat.{ℕ, suc, ◌+◌, ◌*◌, ◌≤◌, ◌<◌}
use mathlib.Core.Path.{◌≡◌, refl, ◌∙◌}
use mathlib.Core.List.{List, [], ◌∷◌, ◌++◌, append-nil}
use native.Mathlib.Nat.{mul_assoc, suc-mul, mul-le-mul, mul-le-mul_right, le_antisymm}
use native.Mathlib.Omega.{arith}
use lib.ListN.{length, get_or, set, length-append}
use Rattle.arrays.proofs.Filled.{Filled}
use Rattle.distances.specs.Rectangle.{first_cells, second_cells, center}
use Rattle.distances.proofs.RectangleLaws.{CellsOk}
use Rattle.traverse.specs.Layout.{each_to, rectangle_layout, most_distances, IsLayout}
use Rattle.traverse.proofs.ListLaws.{filled_two, each_none, each_more, each_length, each_at}

-- the two distances of cell i along the first side, j along the second
abbrev pub pair : ℕ → ℕ → ℕ → ℕ → ℕ → ℕ → List ℕ
pair first second columns rows j i = center first columns i ∷ center second rows j ∷ []

-- those of row j
abbrev pub row : ℕ → ℕ → ℕ → ℕ → ℕ → List ℕ
row first second columns rows j = each_to (pair first second columns rows j) columns

module _ (first second columns rows : ℕ) where
  pub row_length : (j : ℕ) → length (row first second columns rows j) ≡ columns * 2
  row_length j = each_length (pair first second columns rows j) 2 (λ i. refl) columns

  -- Number e of the two of cell i in row j, both counted from 0
  pub rows_at : (i j e : ℕ) → i < columns → j < rows → e < 2 → get_or (each_to (row first second columns rows) rows) (2 * (j * columns + i) + e) 0 ≡ get_or (pair first second columns rows (j + 1) (i + 1)) e 0
  rows_at i j e along across two =
      let swap : j * columns * 2 ≡ j * (columns * 2) = mul_assoc j columns 2 in
      let place : 2 * (j * columns + i) + e ≡ j * (columns * 2) + (i * 2 + e) = omega arith in
      rw place
      (each_at (row first second columns rows) (columns * 2) row_length rows j (i * 2 + e) across (omega arith)
      ∙ each_at (pair first second columns rows (j + 1)) 2 (λ i. refl) columns i e along two)

  -- j rows
  pub record Rows (array : List ℕ) (at j : ℕ) : Type 0 where
    pub past : j ≤ rows
    pub filled : Filled most_distances 0 (each_to (row first second columns rows) j) at array

  -- j rows and i points of the next
  pub record Row (j : ℕ) (array : List ℕ) (at i : ℕ) : Type 0 where
    pub past : i ≤ columns
    pub filled : Filled most_distances 0 (each_to (row first second columns rows) j ++ each_to (pair first second columns rows (j + 1)) i) at array

module _ {first second columns rows : ℕ} where
  pub rows_none : {array : List ℕ} → Filled most_distances 0 [] 0 array → Rows first second columns rows array 0 0
  rows_none t = record { past = omega arith; filled = rw (each_none (row first second columns rows)) t }

  pub row_none : {array : List ℕ} {at j : ℕ} → Rows first second columns rows array at j → Row first second columns rows j array at 0
  row_none {j = j} t =
      record {
        past = omega arith;
        filled = rw (each_none (pair first second columns rows (j + 1)), append-nil) t.filled;
      }

  -- There is room for one point more
  pub row_room : {n : ℕ} {array : List ℕ} {at j i : ℕ} → CellsOk n columns rows → Row first second columns rows j array at i → j < rows → i < columns → at + 1 < most_distances
  row_room {at = at} {j = j} {i = i} ok t below inside =
      let whole : length (each_to (row first second columns rows) j) ≡ j * (columns * 2) = each_length (row first second columns rows) (columns * 2) (row_length first second columns rows) j in
      let part : length (each_to (pair first second columns rows (j + 1)) i) ≡ i * 2 = each_length (pair first second columns rows (j + 1)) 2 (λ i. refl) i in
      let both = length-append (each_to (row first second columns rows) j) (each_to (pair first second columns rows (j + 1)) i) in
      let more : suc j * (columns * 2) ≡ j * (columns * 2) + columns * 2 = suc-mul j (columns * 2) in
      let fits : suc j * (columns * 2) ≤ rows * (columns * 2) = mul-le-mul_right (columns * 2) below in
      let wide : columns * 2 ≤ 14 = omega (arith, ok.columns_few) in
      let most : rows * (columns * 2) ≤ most_distances = mul-le-mul ok.rows_few wide in
      omega (arith, t.filled.count)

  pub row_more : {n : ℕ} {array : List ℕ} {at j i a b : ℕ} → CellsOk n columns rows → Row first second columns rows j array at i → j < rows → i < columns →
      a ≡ center first columns (i + 1) → b ≡ center second rows (j + 1) → Row first second columns rows j (set (set array at a) (at + 1) b) (at + 2) (i + 1)
  row_more {j = j} {i = i} {a = a} {b = b} ok t below inside ea eb =
      let whole : List ℕ = each_to (row first second columns rows) j in
      let part : List ℕ = each_to (pair first second columns rows (j + 1)) i in
      record {
        past = omega arith;
        filled = rw (each_more (pair first second columns rows (j + 1)) i, ← ea, ← eb) (filled_two whole part a b t.filled (row_room ok t below inside));
      }

  pub row_all : {array : List ℕ} {at j i : ℕ} → Row first second columns rows j array at i → j < rows → columns ≤ i → Rows first second columns rows array at (j + 1)
  row_all {array = array} {at = at} {j = j} {i = i} t below end =
      let all : i ≡ columns = le_antisymm t.past end in
      record { past = omega arith; filled = rw (each_more (row first second columns rows) j) (rw all at t.filled) }

pub rows_all : (n : ℕ) {first second columns rows : ℕ} {array : List ℕ} {at j : ℕ} → columns ≡ first_cells n first second → rows ≡ second_cells n first second → Rows first second columns rows array at j → rows ≤ j → IsLayout (rectangle_layout n first second) (record { count = at; distances = array })
unfolding rectangle_layout
rows_all n {first} {second} {columns} {rows} {array} {at} {j} ec er t end =
    let all : j ≡ rows = le_antisymm t.past end in
    let filled : Filled most_distances 0 (each_to (row first second columns rows) rows) at array = rw all at t.filled in
    let whole : Filled most_distances 0 (each_to (row first second (first_cells n first second) (second_cells n first second)) (second_cells n first second)) at array = rw (ec, er) at filled in
    record { count = whole.count; distances = whole.holds }
