-- Each test tells which of the two it is.
use mathlib.Core.Path.{sym}
use native.Mathlib.Omega.{arith}
use Rattle.quiet_rule.proofs.Hold.{lesser-at}
use Rattle.quiet.proofs.lesser_of.Goals as goal

pub returns-then-a-eq0 : goal.returns-then-a-eq0
returns-then-a-eq0 c = sym ((lesser-at _ _).0 c.if-a-eq0.true)

pub returns-then-b-eq0 : goal.returns-then-b-eq0
returns-then-b-eq0 c = sym ((lesser-at _ _).1 c.if-b-eq0.true)

pub returns : goal.returns
returns c = let a = c.args in omega (arith, c.min.ensures, (lesser-at a.a a.b).2 (omega (arith, c.if-a-eq0.false)) (omega (arith, c.if-b-eq0.false)))
