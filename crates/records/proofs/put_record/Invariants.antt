-- The four stores lay the head, and each turn of the loop lays one output more behind it.
use mathlib.Core.Path.{◌≡◌}
use Prim.Native.Nat.{◌+◌, ◌-◌, ◌≤◌}
use lib.ListN.{length, take}
use Rattle.records.specs.Bytes.{laid}
use Rattle.records.proofs.put_record.Given as goal

abbrev pub invariant-loop-i : goal.invariant-loop-i
invariant-loop-i l = (l.i ≤ length l.outputs) × (l.i-end ≡ length l.outputs) × (l.at + (length l.outputs + 4) ≤ length l.initial.plan) × (length l.plan ≡ length l.initial.plan) × (l.plan ≡ laid l.initial.plan (l.at + 4) (take l.i l.outputs))

abbrev pub decreases-loop-i : goal.decreases-loop-i
decreases-loop-i l = length l.outputs - l.i
