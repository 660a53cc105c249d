-- A line is an input's where its number is below n, and else an output's.
use Rattle.demand.proofs.Lines.{input-side, output-side}
use Rattle.demand.proofs.side_of.Goals as goal

pub returns-then-k-n : goal.returns-then-k-n
returns-then-k-n c = input-side c.args.n _ c.if-k-n.true

pub returns : goal.returns
returns c = output-side c.args.n _ c.if-k-n.false
