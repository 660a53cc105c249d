-- After i turns it is the smallest of the joined cells of the inputs below i.
use mathlib.Core.Path.{◌≡◌}
use Prim.Native.Nat.{◌-◌, ◌≤◌}
use Rattle.switch.specs.Demand.{cell}
use Rattle.board.specs.Level.{out_of}
use Rattle.quiet_rule.specs.Quiet.{smallest, joined_cell}
use Rattle.quiet.proofs.least_cell.Given as goal

abbrev pub invariant-loop-i : goal.invariant-loop-i
invariant-loop-i l = (l.i ≤ l.n) × (l.hold ≡ smallest l.i (joined_cell l.n (cell l.n l.cells) (out_of l.out)))

abbrev pub decreases-loop-i : goal.decreases-loop-i
decreases-loop-i l = l.n - l.i
