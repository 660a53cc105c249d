-- All records before k have been gone over, and what is kept of them is laid.
use Prim.Native.Nat.{◌-◌}
use Rattle.records.specs.Bytes.{bytes}
use Rattle.rescue_rule.specs.Rescue.{kept_to, kept_at}
use Rattle.rescue_rule.proofs.Pieces.{Laying}
use Rattle.rescue.proofs.lay_kept.Given as goal

abbrev pub invariant-loop-k : goal.invariant-loop-k
invariant-loop-k l = Laying (λ x. bytes l.e.byte l.n (kept_to l.e.width l.e.byte l.n l.damaged x)) (λ x. bytes l.e.byte l.n (kept_at l.e.width l.e.byte l.n l.damaged x)) l.initial.plan l.records l.k l.plan l.next

abbrev pub decreases-loop-k : goal.decreases-loop-k
decreases-loop-k l = l.records - l.k
