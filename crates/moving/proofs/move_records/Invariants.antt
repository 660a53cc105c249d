-- Each turn of the loop lays one record more behind those before it.
use Prim.Native.Nat.{◌-◌, ◌≤◌}
use Rattle.records.specs.Bytes.{plan_from}
use Rattle.records.proofs.Written.{Written}
use Rattle.moving.specs.Move.{moved_plan}
use Rattle.moving.proofs.move_records.Given as goal

abbrev pub invariant-loop-k : goal.invariant-loop-k
invariant-loop-k l = (l.k ≤ l.records)
    × Written l.to.byte l.n (moved_plan l.to.width l.n (plan_from l.width l.plan 0 l.records)) l.initial.moved 0 (moved_plan l.to.width l.n (plan_from l.width l.plan l.k (l.records - l.k))) l.moved l.k l.at

abbrev pub decreases-loop-k : goal.decreases-loop-k
decreases-loop-k l = l.records - l.k
