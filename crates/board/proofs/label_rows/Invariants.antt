-- After i turns the inputs below i have their labels.
use Rattle.board.proofs.Labels.{Begun}
use Rattle.board.proofs.label_rows.Given as goal

abbrev pub invariant-loop-i : goal.invariant-loop-i
invariant-loop-i l = Begun l.n l.cells l.rows l.i
