-- One less than the set has other digits up to the lowest that is 1, and the same above it; nothing shares a digit with 0.
use native.Mathlib.Omega.{arith}
use Rattle.sets.proofs.Digits.{lowered}
use Rattle.sets.proofs.LabelNumberSet.without_lowest.Goals as goal

pub returns : goal.returns
returns c = lowered c.args.self.0 (omega arith)
