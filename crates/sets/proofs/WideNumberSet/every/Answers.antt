-- Either word has all of its own.
use native.Mathlib.Omega.{arith}
use Rattle.sets.proofs.Words.{every}
use Rattle.sets.proofs.WideNumberSet.every.Goals as goal

pub returns : goal.returns
returns c = every c.every-2.result.0 c.every.result.0 (omega arith) (omega arith) c.every-2.ensures c.every.ensures
