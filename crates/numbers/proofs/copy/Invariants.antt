-- After k turns the first k cells are those to copy, and those behind them are as they were.
use Rattle.std.proofs.Common.{◌≡◌}
use Rattle.numbers.proofs.copy.Given as goal
use lib.Seq.{paste}

abbrev pub invariant-loop-k : goal.invariant-loop-k
invariant-loop-k l = l.to ≡ paste l.initial.to 0 l.from l.k
