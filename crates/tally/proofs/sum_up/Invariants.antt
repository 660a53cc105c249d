-- After k turns the table lists the sums of the plan's first k records.
use mathlib.Core.Path.{◌≡◌}
use Prim.Native.Nat.{◌≤◌}
use lib.ListN.{length}
use Rattle.tally.specs.Table.{Listed, Chained}
use Rattle.tally.proofs.sum_up.Given as goal

abbrev pub invariant-loop-k : goal.invariant-loop-k
invariant-loop-k l = Listed l.width l.plan l.k l.count l.entries × Chained l.width l.plan l.count l.heads l.entries × (length l.entries ≡ length l.initial.entries) × (l.k ≤ l.records)
