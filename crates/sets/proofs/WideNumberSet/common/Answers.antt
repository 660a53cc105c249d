-- Word by word.
use native.Mathlib.Omega.{arith}
use Rattle.sets.proofs.Words.{common}
use Rattle.sets.proofs.WideNumberSet.common.Goals as goal

pub returns : goal.returns
returns c =
    let a = c.args in
    common a.self.high.0 a.self.low.0 a.other.high.0 a.other.low.0 c.common-2.result.0 c.common.result.0 (omega arith) (omega arith) (omega arith) c.common-2.ensures c.common.ensures
