-- Each output passed that has another place than the last is counted.
use mathlib.Core.Path.{refl}
use Prim.Native.Nat.{◌%◌}
use lib.Dec.{ltb}
use native.Mathlib.Omega.{arith}
use Rattle.apart.specs.Places.{placed_below}
use Rattle.apart.proofs.Tally.{placed-more, placed-le, bit_le}
use Rattle.apart.proofs.placed.Goals as goal

pub loop-b-init : goal.loop-b-init
unfolding placed_below
loop-b-init c = refl

pub overflow_add-count : goal.overflow_add-count
overflow_add-count c =
    let l = c.loop-b in
    omega (arith, l.invariant, placed-le 63 c.args.outputs.now l.b-index, bit_le (ltb (c.from.result % 64) 63), c.from-count.ensures)

pub loop-b-preserved : goal.loop-b-preserved
loop-b-preserved c = let l = c.loop-b in rw (l.invariant, c.from-count.ensures) (placed-more 63 _ l.b-index c.from.result c.from.ensures)
