-- Each output passed that has another place than the last is counted.
use mathlib.Core.Path.{◌≡◌}
use Rattle.apart.specs.Places.{placed_below}
use Rattle.apart.proofs.placed.Given as goal

abbrev pub invariant-loop-b : goal.invariant-loop-b
invariant-loop-b l = l.count ≡ placed_below 63 l.outputs l.b-index
