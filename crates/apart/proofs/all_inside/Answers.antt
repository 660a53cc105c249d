-- The flag says of the inputs passed whether their outputs are ports or idle.
use Rattle.apart.proofs.Tally.{ports-more}
use Rattle.apart.proofs.all_inside.Goals as goal

pub loop-b-preserved : goal.loop-b-preserved
loop-b-preserved c = ports-more _ _ c.loop-b.b-index c.loop-b.fine c.loop-b.invariant
