-- After j turns the label has the outputs below j whose cells are not zero.
use Prim.Native.Nat.{◌-◌, ◌≤◌}
use Rattle.labels.specs.Ports.{outputs_of}
use Rattle.board.proofs.Labels.{Part}
use Rattle.board.proofs.label_row.Given as goal

abbrev pub invariant-loop-j : goal.invariant-loop-j
invariant-loop-j l = (l.j ≤ l.n) × Part l.cells l.row (outputs_of l.label) l.j

abbrev pub decreases-loop-j : goal.decreases-loop-j
decreases-loop-j l = l.n - l.j
