-- After k turns the count is that of the first k cells.
use mathlib.Core.Path.{◌≡◌}
use mathlib.Core.Bool.{not}
use Prim.Native.Nat.{◌-◌, ◌≤◌}
use lib.Dec.{eqb}
use lib.ListN.{length, take}
use Rattle.std.specs.List.{count_by}
use Rattle.shop.proofs.count_tasks.Given as goal

abbrev pub invariant-loop-k : goal.invariant-loop-k
invariant-loop-k l = (l.k ≤ length l.cells) × (l.k-end ≡ length l.cells) × (l.count ≤ l.k) × (l.count ≡ count_by (λ c. not (eqb c 0)) (take l.k l.cells))

abbrev pub decreases-loop-k : goal.decreases-loop-k
decreases-loop-k l = length l.cells - l.k
