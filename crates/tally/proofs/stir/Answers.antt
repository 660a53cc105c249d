-- Either half is below 2^32, so that the sum has 64 bits.
use mathlib.Core.Path.{refl}
use Prim.Native.Nat.{◌/◌, ◌%◌, ◌<◌}
use native.Mathlib.Omega.{arith}
use Rattle.tally.specs.Table.{stir}
use Rattle.tally.proofs.stir.Goals as goal

pub overflow_add-result : goal.overflow_add-result
overflow_add-result c =
    let upper : c.args.h / 4294967296 < 4294967296 = omega (arith, c.ranges.h.fits) in
    let lower : c.args.h % 4294967296 < 4294967296 = omega arith in
    record { fits = omega (arith, upper, lower) }

pub returns : goal.returns
unfolding stir
returns c = refl
