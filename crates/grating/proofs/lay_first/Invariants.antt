-- Each turn lays one record behind those before it, its hold multiplied by u.
use Prim.Native.Nat.{◌-◌, ◌≤◌}
use Rattle.grating.proofs.First.{Laying}
use Rattle.grating.proofs.lay_first.Given as goal

abbrev pub invariant-loop-k : goal.invariant-loop-k
invariant-loop-k l = (l.k ≤ l.records) × Laying l.e.width l.first l.unit l.records l.e.byte l.n l.initial.plan l.plan l.k

abbrev pub decreases-loop-k : goal.decreases-loop-k
decreases-loop-k l = l.records - l.k
