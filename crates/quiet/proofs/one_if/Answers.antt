-- Not zero is above zero.
use native.Mathlib.Omega.{arith}
use borrow.Author.Tests.{lt-ltb, le-ltb}
use Rattle.counting.specs.Count.{ind}
use Rattle.quiet.proofs.one_if.Goals as goal

pub returns-then-cell-eq0 : goal.returns-then-cell-eq0
unfolding ind
returns-then-cell-eq0 c = rw (le-ltb 0 c.args.cell (omega (arith, c.if-cell-eq0.true)))

pub returns : goal.returns
unfolding ind
returns c = rw (lt-ltb 0 c.args.cell (omega (arith, c.if-cell-eq0.false)))
