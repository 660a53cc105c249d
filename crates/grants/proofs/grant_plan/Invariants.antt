-- All records before k are well formed, and what they grant stands in the grants.
use mathlib.Core.Path.{◌≡◌}
use Prim.Native.Nat.{◌-◌}
use lib.ListN.{length}
use Rattle.records.specs.Bytes.{plan_from}
use Rattle.grants.specs.Grants.{Grants}
use Rattle.plans.proofs.Pass.{Through}
use Rattle.grants.proofs.grant_plan.Given as goal

abbrev pub invariant-loop-k : goal.invariant-loop-k
invariant-loop-k l = Through l.e l.n l.plan l.records l.k l.total × (length l.grants ≡ length l.initial.grants) × Grants l.n (plan_from l.e.width l.plan 0 l.k) l.grants

abbrev pub decreases-loop-k : goal.decreases-loop-k
decreases-loop-k l = l.records - l.k
