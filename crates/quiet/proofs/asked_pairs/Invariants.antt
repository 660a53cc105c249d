-- Row by row the count grows by a row's.
use mathlib.Core.Path.{◌≡◌}
use Prim.Native.Nat.{◌*◌, ◌-◌, ◌≤◌}
use lib.Dec.{ltb}
use Rattle.counting.specs.Sum.{sum}
use Rattle.counting.specs.Count.{count}
use Rattle.switch.specs.Demand.{cell}
use Rattle.quiet.proofs.asked_pairs.Given as goal

abbrev pub invariant-loop-i : goal.invariant-loop-i
invariant-loop-i l = (l.i ≤ l.n) × (l.asked ≡ sum l.i (λ a. count l.n (λ b. ltb 0 (cell l.n l.cells a b)))) × (l.asked ≤ l.i * 128)

abbrev pub decreases-loop-i : goal.decreases-loop-i
decreases-loop-i l = l.n - l.i
