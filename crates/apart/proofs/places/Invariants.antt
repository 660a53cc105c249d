-- Each output passed sets its place.
use mathlib.Core.Path.{◌≡◌}
use Rattle.apart.specs.Places.{places_of}
use Rattle.apart.proofs.places.Given as goal

abbrev pub invariant-loop-b : goal.invariant-loop-b
invariant-loop-b l = l.seen ≡ places_of l.outputs l.b-index
