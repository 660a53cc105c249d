-- After k turns it is the largest of the first k lines, and T is the largest of all 2n.
use mathlib.Core.Path.{◌≡◌}
use Prim.Native.Nat.{◌+◌, ◌-◌, ◌≤◌}
use Rattle.counting.specs.Sum.{most}
use Rattle.switch.specs.Demand.{line}
use Rattle.demand.proofs.longest_line.Given as goal

abbrev pub invariant-loop-k : goal.invariant-loop-k
invariant-loop-k l = (l.k-end ≡ l.n + l.n) × (l.k ≤ l.n + l.n) × (l.longest ≡ most l.k (line l.n l.cells))

abbrev pub decreases-loop-k : goal.decreases-loop-k
decreases-loop-k l = l.n + l.n - l.k
