-- All records before k are well formed, and their holds are summed.
use Prim.Native.Nat.{◌-◌}
use Rattle.plans.proofs.Pass.{Through}
use Rattle.plans.proofs.judge.Given as goal

abbrev pub invariant-loop-k : goal.invariant-loop-k
invariant-loop-k l = Through l.e l.n l.plan l.records l.k l.total

abbrev pub decreases-loop-k : goal.decreases-loop-k
decreases-loop-k l = l.records - l.k
