-- The word that output j stands in does it, and the other stays.
use native.Mathlib.Omega.{arith}
use Rattle.sets.proofs.Words.{none}
use Rattle.sets.proofs.WideNumberSet.none.Goals as goal

pub returns : goal.returns
returns c = none c.none-2.result.0 c.none.result.0 (omega arith) c.none-2.ensures c.none.ensures
