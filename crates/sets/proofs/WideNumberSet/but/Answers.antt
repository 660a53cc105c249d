-- Word by word.
use native.Mathlib.Omega.{arith}
use Rattle.sets.proofs.Words.{but}
use Rattle.sets.proofs.WideNumberSet.but.Goals as goal

pub returns : goal.returns
returns c =
    let a = c.args in
    but a.self.high.0 a.self.low.0 a.other.high.0 a.other.low.0 c.but-2.result.0 c.but.result.0 (omega arith) (omega arith) (omega arith) c.but-2.ensures c.but.ensures
