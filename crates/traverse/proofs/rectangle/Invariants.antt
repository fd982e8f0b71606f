-- Two loops, along the second side and, inside it, along the first: each turn of the inner one stores a point's two distances.
use Rattle.traverse.proofs.RowLaws.{Rows, Row}
use Rattle.traverse.proofs.rectangle.Given as goal

abbrev pub invariant-loop-i : goal.invariant-loop-i
invariant-loop-i l =
    Row l.first l.second l.columns l.rows l.j l.distances l.at l.i

abbrev pub invariant-loop-j : goal.invariant-loop-j
invariant-loop-j l =
    Rows l.first l.second l.columns l.rows l.distances l.at l.j
