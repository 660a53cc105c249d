-- Each return is the case of the definition whose tests led there.
use native.Mathlib.Omega.{arith}
use Rattle.tasks.proofs.Fine.{later, sooner, at_once}
use Rattle.tasks.proofs.rising.Goals as goal

pub returns-then-s-start : goal.returns-then-s-start
returns-then-s-start c = later _ _ _ _ c.if-s-start.true

pub returns-then-s-start-2 : goal.returns-then-s-start-2
returns-then-s-start-2 c = at_once _ c.args.o _ _ c.if-s-start-2.true

pub returns-else-s-start-2 : goal.returns-else-s-start-2
returns-else-s-start-2 c = sooner _ _ _ _ (omega (arith, c.if-s-start-2.false))
