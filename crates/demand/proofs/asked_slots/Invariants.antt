-- Row by row the sum grows by a line, of which none is over 65,535.
use mathlib.Core.Path.{◌≡◌}
use Prim.Native.Nat.{◌-◌, ◌*◌, ◌≤◌}
use Rattle.counting.specs.Sum.{sum}
use Rattle.counting.specs.Matrix.{row}
use Rattle.switch.specs.Demand.{cell}
use Rattle.demand.proofs.asked_slots.Given as goal

abbrev pub invariant-loop-i : goal.invariant-loop-i
invariant-loop-i l = (l.i ≤ l.n) × (l.asked ≡ sum l.i (row l.n (cell l.n l.cells))) × (l.asked ≤ l.i * 65535)

abbrev pub decreases-loop-i : goal.decreases-loop-i
decreases-loop-i l = l.n - l.i
