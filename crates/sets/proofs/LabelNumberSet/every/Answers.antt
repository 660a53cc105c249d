-- The last number of 64 digits has them all, and no others.
use native.Mathlib.Omega.{arith}
use Rattle.sets.proofs.Digits.{every, digit-in}
use Rattle.sets.proofs.LabelNumberSet.every.Goals as goal

pub returns : goal.returns
returns c = record { only = λ k h. digit-in 64 18446744073709551615 k (omega arith) h; all = every 64 }
