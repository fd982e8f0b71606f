-- All starred values of docs/RULES.md hold: one statement over one list.
use mathlib.Core.List.{List, [], ◌∷◌, ◌++◌, map}
use Rattle.lines.specs.Starred.{roots, leak, worked_lines}
use Rattle.lines.proofs.Starred.{roots_hold, leak_holds, worked_lines_hold}
use Rattle.rules.specs.Starred.{Each, starred_factors, starred_isokinetic, starred_weighings}
use Rattle.rules.proofs.Starred.{starred_factors_lem, starred_isokinetic_lem, starred_weighings_lem, each_mapped}
use Rattle.distances.specs.Positions.{starred_positions}
use Rattle.distances.proofs.PositionLaws.{starred_positions_lem}
use Rattle.readings.specs.declared.headers.Version.TheVariants.{One, Two}
use Rattle.demands.proofs.Examples.{worked}
use Rattle.demands.specs.Starred.{StarredValue, of_numbers, of_factor, of_percent, of_weighing, of_positions, worked_file, Stands, starred}

pub starred_stand : Each Stands starred
starred_stand =
    let last : List StarredValue = of_positions starred_positions ∷ worked_file One ∷ worked_file Two ∷ [] in
    let weighings : List StarredValue = map of_weighing starred_weighings ++ last in
    let percents : List StarredValue = map of_percent starred_isokinetic ++ weighings in
    let factors : List StarredValue = map of_factor starred_factors ++ percents in
    each_mapped Stands of_numbers (roots ∷ leak ∷ worked_lines ∷ []) factors (roots_hold, (leak_holds, (worked_lines_hold, tt)))
    (each_mapped Stands of_factor starred_factors percents starred_factors_lem
    (each_mapped Stands of_percent starred_isokinetic weighings starred_isokinetic_lem
    (each_mapped Stands of_weighing starred_weighings last starred_weighings_lem (starred_positions_lem, (worked One, (worked Two, tt))))))
