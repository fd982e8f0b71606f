-- docs/RULES.md, Choosing certificates: kind, maker, serial and letter all count, and one before or after the run's day.
use Rattle.std.specs.Prelude.{ℕ, zero, suc, ◌≤◌, ◌<◌, ◌≡◌, Bool, true, false, cond, ◌&&◌, Option, Some, None, leb, ltb, eqb}
use Rattle.readings.specs.Ranges.{meter, pitot, nozzle}
use Rattle.records.specs.declared.Identity.{Identity}
use Rattle.records.specs.declared.Certificate.{Certificate}
use Rattle.records.specs.declared.RunHeader.{RunHeader}
use Rattle.records.specs.Records.{same_identity}
use Rattle.choosing.specs.declared.Chosen.{Chosen}

-- before: on or before the day; after: later than the day
abbrev pub so_dated : Bool → ℕ → ℕ → Bool
so_dated false day dated = leb dated day
so_dated true day dated = ltb day dated

-- of two days so dated the second is nearer: before, the later one; after, the earlier one
abbrev pub nearer : Bool → ℕ → ℕ → Bool
nearer false first second = ltb first second
nearer true first second = ltb second first

-- a certificate of that kind, maker, serial and letter, so dated
unfoldable pub eligible : Bool → ℕ → Identity → ℕ → Certificate → Bool
eligible after kind identity day c =
    eqb c.kind kind && (same_identity c.identity identity && so_dated after day c.day)

-- the nearer of the best so far and one certificate more
unfoldable pub keep : Bool → Option Certificate → Certificate → Option Certificate
keep after None c = Some c
keep after (Some b) c = cond (nearer after b.day c.day) (Some c) (Some b)

-- the best so far gives way to a day: there is no best, or its day is less near
abbrev pub gives_way : Bool → Option ℕ → ℕ → Bool
gives_way after None dated = true
gives_way after (Some nearest) dated = nearer after nearest dated

-- one certificate more takes the place of the best so far: so dated, and the best gives way to its day
abbrev pub replaces : Bool → ℕ → Identity → ℕ → Option ℕ → Certificate → Bool
replaces after kind identity day nearest c = eligible after kind identity day c && gives_way after nearest c.day

-- Of the first n certificates: before, the latest dated on or before the day; after, the earliest dated later
unfoldable pub chosen : Bool → ℕ → Identity → ℕ → (ℕ → Certificate) → ℕ → Option Certificate
chosen after kind identity day f zero = None
chosen after kind identity day f (suc n) =
    let best : Option Certificate = chosen after kind identity day f n in
    cond (eligible after kind identity day (f n)) (keep after best (f n)) best

-- A run's certificates: of its meter before and after, of its pitot tube and of its nozzle before
unfoldable pub chosen_for : (ℕ → Certificate) → ℕ → RunHeader → Chosen
chosen_for f n h =
    record {
      before = chosen false meter h.meter h.day f n;
      after = chosen true meter h.meter h.day f n;
      pitot = chosen false pitot h.pitot h.day f n;
      nozzle = chosen false nozzle h.nozzle h.day f n;
    }

-- What the choice is promised to be, in the words of docs/RULES.md

-- dated on or before the day, or later than it
abbrev pub Dated : Bool → ℕ → ℕ → Type 0
Dated false day dated = dated ≤ day
Dated true day dated = day < dated

-- no nearer the run than the chosen day: before, not later; after, not earlier
abbrev pub NoNearer : Bool → ℕ → ℕ → Type 0
NoNearer false chosen other = other ≤ chosen
NoNearer true chosen other = chosen ≤ other

-- of that kind, maker, serial and letter
pub record Of (k : ℕ) (id : Identity) (c : Certificate) : Type 0 where
  pub kind : c.kind ≡ k
  pub identity : c.identity ≡ id

-- of that kind, maker, serial and letter, and so dated
pub record Eligible (after : Bool) (kind : ℕ) (identity : Identity) (day : ℕ) (c : Certificate) : Type 0 where
  pub is : Of kind identity c
  pub dated : Dated after day c.day

-- none of the first n is so dated
abbrev pub NoneSoDated : Bool → ℕ → Identity → ℕ → (ℕ → Certificate) → ℕ → Type 0
NoneSoDated after kind identity day f n = (i : ℕ) → i < n → Eligible after kind identity day (f i) → ⊥

-- c is one of the first n, so dated, and no other so dated is nearer
pub record Nearest (after : Bool) (kind : ℕ) (identity : Identity) (day : ℕ) (f : ℕ → Certificate) (n : ℕ) (c : Certificate) : Type 0 where
  pub index : ℕ
  pub inside : index < n
  pub there : f index ≡ c
  pub eligible : Eligible after kind identity day c
  pub nearest : (i : ℕ) → i < n → Eligible after kind identity day (f i) → NoNearer after c.day (f i).day

-- no two of the first n agree in kind, maker, serial, letter and day
pub record Unique (f : ℕ → Certificate) (n : ℕ) : Type 0 where
  pub once : (i j : ℕ) → i < n → j < n → Of (f j).kind (f j).identity (f i) → (f i).day ≡ (f j).day → i ≡ j

-- every certificate of that kind, maker, serial and letter among the first n is one of the first m of g
pub record Included (kind : ℕ) (identity : Identity) (f : ℕ → Certificate) (n : ℕ) (g : ℕ → Certificate) (m : ℕ) : Type 0 where
  pub held : (i : ℕ) → i < n → Of kind identity (f i) → (j : ℕ) × ((j < m) × (g j ≡ f i))

-- two jobs hold the same certificates of that kind, maker, serial and letter, in whatever order and among whatever others
pub record SameMembers (kind : ℕ) (identity : Identity) (f : ℕ → Certificate) (n : ℕ) (g : ℕ → Certificate) (m : ℕ) : Type 0 where
  pub into : Included kind identity f n g m
  pub back : Included kind identity g m f n

-- two jobs hold the same certificates of the meter, the pitot tube and the nozzle that a run names
pub record SameForRun (h : RunHeader) (f : ℕ → Certificate) (n : ℕ) (g : ℕ → Certificate) (m : ℕ) : Type 0 where
  pub meter : SameMembers meter h.meter f n g m
  pub pitot : SameMembers pitot h.pitot f n g m
  pub nozzle : SameMembers nozzle h.nozzle f n g m
