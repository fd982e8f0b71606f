-- A record's values and rows hang on its own bytes alone, by computation: the same front of a file, the same record, whatever follows.
use Prim.Native.Nat.{ℕ, zero, suc, ◌+◌, ◌≤◌}
use mathlib.Core.Path.{◌≡◌, refl, sym, ◌∙◌, ap}
use mathlib.Core.List.{List, [], ◌∷◌, ◌++◌}
use native.Mathlib.Nat.{le_of_suc-le-suc}
use native.Mathlib.Omega.{arith}
use lib.ListN.{length, get_or, drop, length-drop}
use lib.Seq.{drop-append-le}
use Rattle.fields.specs.Numbers.{byte_at, u16_at, u32_at, i16_at}
use Rattle.readings.specs.declared.headers.Version.{Version}
use Rattle.readings.specs.declared.headers.Version.TheVariants.{One, Two}
use Rattle.opening.specs.Opening.{file_header_size, version_of, certificate_count_of, run_count_of, file_rows}
use Rattle.heads.specs.Values.{certificate, header, spare_byte, certificate_size, run_header_size}
use Rattle.parts.specs.Values.{point, segment, weighing, point_size, segment_size, weighing_size}
use Rattle.heads.specs.Rows.{header_rows}
use Rattle.parts.specs.Rows.{weighing_rows}

-- c 0, .., c (n - 1), and then the rest
abbrev laid : ℕ → (ℕ → ℕ) → List ℕ → List ℕ
laid zero c rest = rest
laid (suc n) c rest = c 0 ∷ laid n (λ i. c (suc i)) rest

laid_front : (n : ℕ) (q a : List ℕ) → n ≤ length q → q ++ a ≡ laid n (λ i. get_or q i 0) (drop n q ++ a)
laid_front zero q a h = refl
laid_front (suc n) [] a h = absurd (omega arith)
laid_front (suc n) (x ∷ q) a h = ap (λ (l : List ℕ). x ∷ l) (laid_front n q a (le_of_suc-le-suc h))

-- f looks at no byte past the first n
pub record Front {A : Type 0} (n : ℕ) (f : List ℕ → A) : Type 0 where
  pub alone : (c : ℕ → ℕ) (r t : List ℕ) → f (laid n c r) ≡ f (laid n c t)

-- nor does what is made of it
pub front_of : {A B : Type 0} (g : A → B) {n : ℕ} {f : List ℕ → A} → Front n f → Front n (λ t. g (f t))
front_of g front = record { alone = λ c r t. ap g (front.alone c r t) }

-- at a place where n bytes of a common front are left, it is the same
pub front_same : {A : Type 0} {n : ℕ} {f : List ℕ → A} → Front n f → (p a b : List ℕ) (at : ℕ) → at + n ≤ length p → f (drop at (p ++ a)) ≡ f (drop at (p ++ b))
front_same {n = n} {f = f} front p a b at h =
    let within : at ≤ length p = omega arith in
    let left : n ≤ length (drop at p) = omega (arith, length-drop at p) in
    ap f (drop-append-le at p a within ∙ laid_front n (drop at p) a left)
    ∙ front.alone _ _ _
    ∙ ap f (sym (drop-append-le at p b within ∙ laid_front n (drop at p) b left))

-- The header

pub version_front : Front file_header_size version_of
unfolding u16_at version_of
version_front = record { alone = λ c r t. refl }

pub certificate_count_front : Front file_header_size certificate_count_of
unfolding u16_at
certificate_count_front = record { alone = λ c r t. refl }

pub run_count_front : Front file_header_size run_count_of
unfolding u16_at
run_count_front = record { alone = λ c r t. refl }

pub file_rows_front : Front file_header_size file_rows
unfolding u16_at
file_rows_front = record { alone = λ c r t. refl }

-- The records

pub certificate_front : (v : Version) → Front (certificate_size v) (certificate v)
unfolding u16_at u32_at
certificate_front One = record { alone = λ c r t. refl }
certificate_front Two = record { alone = λ c r t. refl }

pub header_front : (v : Version) → Front (run_header_size v) (header v)
unfolding u16_at u32_at i16_at
header_front One = record { alone = λ c r t. refl }
header_front Two = record { alone = λ c r t. refl }

-- with the byte that is not used
pub header_rows_front : (v : Version) → Front (run_header_size v) (λ t. header_rows v (header v t) (spare_byte v t))
unfolding u16_at u32_at i16_at
header_rows_front One = record { alone = λ c r t. refl }
header_rows_front Two = record { alone = λ c r t. refl }

pub point_front : Front point_size point
unfolding u16_at i16_at
point_front = record { alone = λ c r t. refl }

pub segment_front : Front segment_size segment
unfolding u16_at
segment_front = record { alone = λ c r t. refl }

-- with the byte that is not used
pub weighing_rows_front : Front weighing_size (λ t. weighing_rows (weighing t) (byte_at t 1))
unfolding u16_at u32_at
weighing_rows_front = record { alone = λ c r t. refl }
