-- All records before k are well formed, and the length is their holds and what they are charged, at most twice 65,535 each.
use mathlib.Core.Path.{◌≡◌}
use Prim.Native.Nat.{◌+◌, ◌*◌, ◌-◌, ◌≤◌}
use Rattle.counting.specs.Sum.{sum}
use Rattle.records.specs.Bytes.{plan_of}
use Rattle.length.specs.Length.{charge}
use Rattle.plans.proofs.Pass.{Through}
use Rattle.length.proofs.charge_plan.Given as goal

abbrev pub invariant-loop-k : goal.invariant-loop-k
invariant-loop-k l = Through l.e l.n l.plan l.count l.k l.total × (l.length ≡ l.total + sum l.k (charge l.d (plan_of l.e.width l.plan))) × (l.length ≤ 131070 * l.k)

abbrev pub decreases-loop-k : goal.decreases-loop-k
decreases-loop-k l = l.count - l.k
