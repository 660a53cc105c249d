-- After k turns the table lists the sums of the plan's first k records.
use Rattle.tally.proofs.Next.{listed-none, chained-none}
use mathlib.Core.Path.{refl}
use native.Mathlib.Omega.{arith}
use Rattle.tally.proofs.sum_up.Goals as goal

pub loop-k-init : goal.loop-k-init
loop-k-init c = (listed-none _ _ _, chained-none _ _ _, refl, omega arith)
