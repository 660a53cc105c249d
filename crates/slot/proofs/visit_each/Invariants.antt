-- Each turn of the loop is that of the lowest input ahead, and the turns of those that are left complete it.
use Prim.Native.Nat.{◌-◌}
use Rattle.sets.specs.Label.{absent}
use Rattle.labels.specs.Ports.{inputs_of}
use Rattle.slot.proofs.Around.{Ahead}
use Rattle.slot.proofs.visit_each.Given as goal

abbrev pub invariant-loop-i : goal.invariant-loop-i
invariant-loop-i l = Ahead l.n (inputs_of l.initial.ahead) l.initial.work l.initial.rows l.initial.out l.initial.turn (inputs_of l.ahead) l.work l.rows l.out l.turn

abbrev pub decreases-loop-i : goal.decreases-loop-i
decreases-loop-i l = 128 - absent 128 (inputs_of l.ahead)
