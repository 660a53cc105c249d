-- The trailing zeros end at the lowest digit that is 1.
use mathlib.Core.Path.{ap}
use Prim.Native.Nat.{ℕ}
use lib.Count.{trailing_le}
use native.Mathlib.Omega.{arith}
use Rattle.sets.specs.Label.{digit}
use Rattle.sets.proofs.Digits.{none-digit, lowest}
use Rattle.sets.proofs.LabelNumberSet.lowest.Goals as goal

pub returns-then-self-eq0 : goal.returns-then-self-eq0
returns-then-self-eq0 c = λ k h. omega (arith, h, ap (λ (x : ℕ). digit x k) c.if-self-eq0.true, none-digit k)

pub overflow_cast-result : goal.overflow_cast-result
overflow_cast-result c = omega (arith, trailing_le 64 c.args.self.0)

pub returns : goal.returns
returns c = lowest c.args.self.0 (omega arith) c.if-self-eq0.false
