-- Between two moments what is left to plan is the plan's; the time grows with each, so there is an end.
use Prim.Native.Nat.{◌-◌}
use Rattle.shop.proofs.Runs.{Running}
use Rattle.shop.proofs.run.Given as goal

abbrev pub invariant-loop-t : goal.invariant-loop-t
invariant-loop-t l = Running l.n l.cells l.d l.t l.begun l.waiting l.ins l.outs l.tasks l.initial.tasks

abbrev pub decreases-loop-t : goal.decreases-loop-t
decreases-loop-t l = 4294967296 - l.t
