-- Word by word.
use native.Mathlib.Omega.{arith}
use Rattle.sets.proofs.Words.{union}
use Rattle.sets.proofs.WideNumberSet.with.Goals as goal

pub returns : goal.returns
returns c =
    let a = c.args in
    union a.self.high.0 a.self.low.0 a.other.high.0 a.other.low.0 c.with-2.result.0 c.with.result.0 (omega arith) (omega arith) (omega arith) c.with-2.ensures c.with.ensures
