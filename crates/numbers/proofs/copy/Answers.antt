-- One more cell is copied at each turn; at the end all are.
use Rattle.std.proofs.Common.{arith, ◌∙◌}
use lib.Seq.{paste-zero}
use Rattle.numbers.proofs.Copies.{copy-next, copy-all}
use Rattle.numbers.proofs.copy.Goals as goal

pub loop-k-init : goal.loop-k-init
loop-k-init c = paste-zero c.args.to.now 0 c.args.from.now

pub loop-k-preserved : goal.loop-k-preserved
loop-k-preserved c = copy-next c.args.to.now c.args.from.now c.loop-k.to c.loop-k.k (omega arith) (omega arith) c.loop-k.invariant

pub returns : goal.returns
returns c = c.loop-k.invariant ∙ copy-all _ _ c.loop-k.k (omega arith)
