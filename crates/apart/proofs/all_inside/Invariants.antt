-- The flag says of the inputs passed whether their outputs are ports or idle.
use mathlib.Core.Path.{◌≡◌}
use lib.ListN.{length}
use Rattle.apart.specs.Fine.{Ports}
use mathlib.Core.Bool.{true}
use Rattle.apart.proofs.all_inside.Given as goal

abbrev pub invariant-loop-b : goal.invariant-loop-b
invariant-loop-b l = l.fine ≡ true → Ports (length l.outputs) l.outputs l.b-index
