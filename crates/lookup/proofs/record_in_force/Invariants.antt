-- Each turn takes one record's hold off what is left of the slot.
use mathlib.Core.Path.{◌≡◌}
use Prim.Native.Nat.{◌+◌, ◌-◌}
use Rattle.records.specs.Bytes.{plan_from, plan_of}
use Rattle.lookup.specs.Force.{in_force}
use Rattle.lookup.proofs.record_in_force.Given as goal

abbrev pub invariant-loop-k : goal.invariant-loop-k
invariant-loop-k l = in_force (plan_of l.width l.plan) l.slot ≡ l.k + in_force (plan_from l.width l.plan l.k (l.records - l.k)) l.left
