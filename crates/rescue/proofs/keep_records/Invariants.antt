-- All records before k have been gone over.
use mathlib.Core.Path.{◌≡◌}
use Prim.Native.Nat.{◌-◌, ◌≤◌}
use lib.ListN.{length}
use Rattle.rescue.specs.Keeping.{Keeping}
use Rattle.rescue.proofs.keep_records.Given as goal

abbrev pub invariant-loop-k : goal.invariant-loop-k
invariant-loop-k l = Keeping l.e.width l.e.byte l.n l.plan l.k l.kept l.grants × (l.k ≤ l.records) × (length l.grants ≡ length l.initial.grants)

abbrev pub decreases-loop-k : goal.decreases-loop-k
decreases-loop-k l = l.records - l.k
