-- How many entries there can be: one a side, two a kind.
use Prim.Native.Nat.{◌≤◌}
use native.Mathlib.Omega.{arith}
use Rattle.dates.specs.declared.Day.{Day}
use Rattle.dates.specs.declared.Day.TheVariants.{Unused, On, NoneSoDated}
use Rattle.dates.specs.declared.Sides.{Sides}
use Rattle.dates.specs.Dates.{entries_on, entries_of}

pub one_a_side : (d : Day) → entries_on d ≤ 1
unfolding entries_on
one_a_side Unused = omega arith
one_a_side (On day) = omega arith
one_a_side NoneSoDated = omega arith

pub two_a_kind : (s : Sides) → entries_of s ≤ 2
unfolding entries_of
two_a_kind s = omega (arith, one_a_side s.before, one_a_side s.after)
