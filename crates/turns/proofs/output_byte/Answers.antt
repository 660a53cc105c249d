-- The setting's two cases: a port's output, and past the ports there is none.
use mathlib.Core.Path.{sym}
use native.Mathlib.Omega.{arith}
use Rattle.turns.proofs.Ways.{turn-idle}
use Rattle.turns.proofs.output_byte.Goals as goal

pub returns-then-n-i : goal.returns-then-n-i
returns-then-n-i c = let a = c.args in sym (turn-idle a.way a.n a.k a.i c.if-n-i.true)

pub overflow_cast-result : goal.overflow_cast-result
overflow_cast-result c = omega (arith, c.output_of-j.ensures.1, c.requires.1)

pub returns : goal.returns
returns c = c.output_of-j.ensures.0
