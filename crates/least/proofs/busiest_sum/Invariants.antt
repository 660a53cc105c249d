-- After w turns it is the most of the first w wavelengths.
use mathlib.Core.Path.{◌≡◌}
use Rattle.counting.specs.Sum.{most}
use Rattle.switch.specs.Demand.{cell}
use Rattle.quiet_rule.specs.Limit.{band}
use Rattle.least.proofs.busiest_sum.Given as goal

abbrev pub invariant-loop-w : goal.invariant-loop-w
invariant-loop-w l = l.most ≡ most l.w (band l.n (cell l.n l.cells))
