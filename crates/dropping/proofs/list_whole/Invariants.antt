-- All records before k have been gone over, and the entries of those dropped are laid.
use Prim.Native.Nat.{◌-◌}
use Rattle.rescue_rule.specs.Rescue.{dropped_to, dropped_at, entry_bytes}
use Rattle.rescue_rule.proofs.Pieces.{Laying}
use Rattle.dropping.proofs.list_whole.Given as goal

abbrev pub invariant-loop-k : goal.invariant-loop-k
invariant-loop-k l = Laying (λ x. entry_bytes (dropped_to l.e.width l.e.byte l.n l.damaged x)) (λ x. entry_bytes (dropped_at l.e.width l.e.byte l.n l.damaged x)) l.initial.list l.records l.k l.list l.next

abbrev pub decreases-loop-k : goal.decreases-loop-k
decreases-loop-k l = l.records - l.k
