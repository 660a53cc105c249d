-- The lowest output stands in the low word where that has one, and else in the high one.
use mathlib.Core.Path.{ap}
use Prim.Native.Nat.{ℕ}
use native.Mathlib.Omega.{arith}
use Rattle.sets.specs.Label.{digit}
use Rattle.sets.proofs.Digits.{none-digit}
use Rattle.sets.proofs.Words.{lowered-low, lowered-high}
use Rattle.sets.proofs.WideNumberSet.without_lowest.Goals as goal

pub returns-then-self-eq0 : goal.returns-then-self-eq0
returns-then-self-eq0 c =
    let a = c.args in
    lowered-high a.self.high.0 c.without_lowest.result.0 a.self.low.0 (omega arith) (λ k h. omega (arith, h, ap (λ (x : ℕ). digit x k) c.if-self-eq0.true, none-digit k)) c.without_lowest.ensures

pub returns : goal.returns
returns c =
    let a = c.args in
    lowered-low a.self.high.0 a.self.low.0 c.without_lowest-2.result.0 (omega arith) (omega arith) c.if-self-eq0.false c.without_lowest-2.ensures
