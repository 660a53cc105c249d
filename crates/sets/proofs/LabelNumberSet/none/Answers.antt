-- No digit of 0 is 1.
use native.Mathlib.Omega.{arith}
use Rattle.sets.proofs.Digits.{none-digit}
use Rattle.sets.proofs.LabelNumberSet.none.Goals as goal

pub returns : goal.returns
returns c = λ k h. omega (arith, none-digit k)
