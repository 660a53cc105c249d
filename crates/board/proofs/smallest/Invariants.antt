-- After i turns it is the least of the cells that the inputs below i use.
use mathlib.Core.Path.{◌≡◌}
use Prim.Native.Nat.{◌-◌, ◌≤◌, ◌<◌}
use Rattle.switch.specs.Demand.{cell}
use Rattle.rules.specs.Exact.{least}
use Rattle.board.specs.Level.{out_of}
use Rattle.board.proofs.smallest.Given as goal

abbrev pub invariant-loop-i : goal.invariant-loop-i
invariant-loop-i l = (l.i ≤ l.n) × (0 < l.i) × (l.hold ≡ least (l.i - 1) (λ k. cell l.n l.cells k (out_of l.out k)))

abbrev pub decreases-loop-i : goal.decreases-loop-i
decreases-loop-i l = l.n - l.i
