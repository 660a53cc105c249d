-- After j turns the outputs below j are counted whose cells are not zero.
use mathlib.Core.Path.{◌≡◌}
use Prim.Native.Nat.{◌+◌, ◌-◌, ◌≤◌}
use lib.ListN.{get_or}
use lib.Dec.{ltb}
use Rattle.counting.specs.Sum.{sum}
use Rattle.counting.specs.Count.{ind}
use Rattle.quiet.proofs.asked_of.Given as goal

abbrev pub invariant-loop-j : goal.invariant-loop-j
invariant-loop-j l = (l.j ≤ l.n) × (l.asked ≡ sum l.j (λ b. ind (ltb 0 (get_or l.cells (l.row + b) 0)))) × (l.asked ≤ l.j)

abbrev pub decreases-loop-j : goal.decreases-loop-j
decreases-loop-j l = l.n - l.j
