-- A figure file as a call is given it (docs/RULES.md, The figure file): when it is good, where it is in trouble, and what it asks for.
use Rattle.std.specs.Prelude.{ℕ, suc, ◌*◌, ◌≤◌, ◌<◌, max, ◌≡◌, List, ◌⊎◌, length}
use Rattle.fields.specs.Numbers.{byte_at, u16_at}
use Rattle.fields.specs.Trouble.{AllGood}
use Rattle.records.specs.declared.Site.{Site}
use Rattle.diameters.specs.Diameters.{diameter}
use Rattle.steps.specs.declared.Step.{Step}
use Rattle.steps.specs.declared.Figure.{Figure}
use Rattle.steps.specs.Steps.{points_for}
use Rattle.figures.specs.Figures.{Supplied, step_at, list_end, last_at, next_at, figure_rows, none_supplied, read_figure}
use Rattle.site.specs.Site.{next_allowed, minimum_points}

-- what a call is given for a figure: no file, or one
pub data Lent : Type 0 where
  no_file : Lent
  file : List ℕ → Lent

-- what that supplies
abbrev pub supplied : Lent → Supplied
supplied no_file = none_supplied
supplied (file f) = read_figure f

-- the figure, or none
abbrev pub figure_in : Lent → Figure
figure_in l = (supplied l).figure

-- no file, or one whose every field is complete and good and that ends behind the last
abbrev pub GoodLent : Lent → Type 0
GoodLent no_file = Unit {0}
GoodLent (file f) = AllGood (figure_rows f)

-- What that says in the words of the rules

-- a step asks for 1 to 48 points round and 1 to 49 rectangular
pub record GoodStep (p : Step) : Type 0 where
  pub some_round : 1 ≤ p.round
  pub few_round : p.round ≤ 48
  pub some_rectangular : 1 ≤ p.rectangular
  pub few_rectangular : p.rectangular ≤ 49

-- behind a step, the distance rises and the points do not
pub record Behind (p q : Step) : Type 0 where
  pub distance : p.least < q.least
  pub round : q.round ≤ p.round
  pub rectangular : q.rectangular ≤ p.rectangular

-- the list whose count stands at a place: 1 to 16 steps, each good, and each behind the one before
pub record GoodList (f : List ℕ) (at : ℕ) : Type 0 where
  pub some : 1 ≤ byte_at f at
  pub few : byte_at f at ≤ 16
  pub steps : (i : ℕ) → i < byte_at f at → GoodStep (step_at f at i)
  pub rising : (i : ℕ) → suc i < byte_at f at → Behind (step_at f at i) (step_at f at (suc i))

-- a good figure: "FIG", version 1, both lists, and nothing behind them
pub record GoodFigure (f : List ℕ) : Type 0 where
  pub mark : (byte_at f 0 ≡ 70) × (byte_at f 1 ≡ 73) × (byte_at f 2 ≡ 71)
  pub version : u16_at f 3 ≡ 1
  pub last : GoodList f last_at
  pub next : GoodList f (next_at f)
  pub whole : length f ≡ list_end f (next_at f)

-- What it asks for, in the words of the rules

-- a distance at a site reaches step i of the list at a place: 100 times the distance is at least the least distance times the diameter
abbrev pub ReachesStep : List ℕ → ℕ → Site → ℕ → ℕ → Type 0
ReachesStep f at s distance i = (step_at f at i).least * (diameter s).over ≤ 100 * (distance * (diameter s).under)

-- step i is the one that a distance takes: the last that it reaches, or the first if it reaches none
pub record Takes (f : List ℕ) (at : ℕ) (s : Site) (distance i : ℕ) : Type 0 where
  pub inside : i < byte_at f at
  pub own : ReachesStep f at s distance i ⊎ (i ≡ 0)
  pub last : (k : ℕ) → i < k → k < byte_at f at → ReachesStep f at s distance k → ⊥

-- the least number of points: the higher number of the two steps that the distances take, raised to the next allowed one
pub record LeastBySteps (f : List ℕ) (s : Site) : Type 0 where
  pub i : ℕ
  pub j : ℕ
  pub last : Takes f last_at s s.last i
  pub next : Takes f (next_at f) s s.next j
  pub least :
      minimum_points (read_figure f).figure s
      ≡ next_allowed s.shape (max (points_for s (step_at f last_at i)) (points_for s (step_at f (next_at f) j)))
