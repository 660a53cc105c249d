-- The outputs passed that are port 63 are counted, and with a count of 1 at most no two are.
use native.Mathlib.Omega.{arith}
use lib.Dec.{eqb}
use Rattle.apart.proofs.Tally.{tallied-none, tallied-more, bit_le}
use Rattle.apart.proofs.last_twice.Goals as goal

pub loop-b-init : goal.loop-b-init
loop-b-init c = tallied-none 63 _

pub overflow_add-count : goal.overflow_add-count
overflow_add-count c = omega (arith, c.loop-b.invariant.few, bit_le (eqb c.from.result 63), c.from-count.ensures)

pub loop-b-preserved : goal.loop-b-preserved
loop-b-preserved c = let l = c.loop-b in rw c.from-count.ensures (tallied-more 63 _ l.b-index _ l.invariant c.from.result c.from.ensures)
