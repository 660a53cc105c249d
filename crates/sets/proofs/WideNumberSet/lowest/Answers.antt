-- The low word is asked first, and the high one only where the low one has none.
use native.Mathlib.Omega.{arith}
use Rattle.sets.proofs.Words.{none, lowest-low, lowest-high}
use Rattle.sets.proofs.WideNumberSet.lowest.Goals as goal

pub overflow_add-result : goal.overflow_add-result
overflow_add-result c = omega (arith, c.in_ok-lowest-in-None.ensures.small)

pub returns-in_ok-lowest-in-None : goal.returns-in_ok-lowest-in-None
returns-in_ok-lowest-in-None c =
    let a = c.args in
    lowest-high a.self.high.0 a.self.low.0 (omega arith) c.in-None.ensures _ c.in_ok-lowest-in-None.ensures

pub returns-in_err-lowest-in-None : goal.returns-in_err-lowest-in-None
returns-in_err-lowest-in-None c =
    let a = c.args in
    rw c.from_residual.ensures (none a.self.high.0 a.self.low.0 (omega arith) c.in_err-lowest-in-None.ensures c.in-None.ensures)

pub returns-in-Some : goal.returns-in-Some
returns-in-Some c =
    let a = c.args in
    lowest-low a.self.high.0 a.self.low.0 _ c.in-Some.ensures
