-- `wish::rounded_up` answers the ceiling: the whole number nearest to the float, or one more where that is below the float.
use native.Mathlib.Omega.{arith}
use lib.Ieee.{of_bits}
use Rattle.wish.proofs.Rounding.{castable, cast-small, rounded-next, rounded-same}
use Rattle.wish.proofs.rounded_up.Goals as goal

pub float_to_int-whole : goal.float_to_int-whole
unfolding of_bits
float_to_int-whole c = castable c.args.x c.requires

pub overflow_add-result : goal.overflow_add-result
unfolding of_bits
overflow_add-result c = omega (arith, cast-small c.args.x c.requires)

pub returns-then-near-x : goal.returns-then-near-x
unfolding of_bits
returns-then-near-x c = rounded-next c.args.x c.requires c.if-near-x.true

pub returns : goal.returns
unfolding of_bits
returns c = rounded-same c.args.x c.requires c.if-near-x.false
