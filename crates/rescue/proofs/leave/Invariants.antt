-- The cells before k have had their turn, those from k on have not.
use mathlib.Core.Path.{◌≡◌}
use Prim.Native.Nat.{◌-◌, ◌≤◌}
use lib.ListN.{length}
use Rattle.rescue.proofs.Uncovered.{Leaving}
use Rattle.rescue.proofs.leave.Given as goal

abbrev pub invariant-loop-k : goal.invariant-loop-k
invariant-loop-k l = (l.k-end ≡ length l.cells) × (l.k ≤ length l.cells) × Leaving l.cells l.initial.grants l.grants l.k

abbrev pub decreases-loop-k : goal.decreases-loop-k
decreases-loop-k l = length l.cells - l.k
