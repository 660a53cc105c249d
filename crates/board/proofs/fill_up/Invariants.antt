-- The rows before row i are filled in order, and what each line still lacks is noted beside them.
use Rattle.board.specs.Level.{RowsFilled}
use Rattle.board.proofs.fill_up.Given as goal

abbrev pub invariant-loop-i : goal.invariant-loop-i
invariant-loop-i l = RowsFilled l.n l.longest l.initial.cells l.i l.cells l.lacking
