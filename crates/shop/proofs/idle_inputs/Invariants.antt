-- After i turns the set has the inputs below i that are idle.
use Rattle.shop.specs.Sets.{numbers_of}
use Rattle.shop.specs.Kept.{Idle}
use Rattle.shop.proofs.idle_inputs.Given as goal

abbrev pub invariant-loop-i : goal.invariant-loop-i
invariant-loop-i l = Idle l.i l.t l.ins (numbers_of l.idle)
