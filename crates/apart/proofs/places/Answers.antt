-- Each output passed sets its place.
use mathlib.Core.Path.{refl}
use Rattle.apart.specs.Places.{places_of}
use Rattle.apart.proofs.Tally.{places-more}
use Rattle.apart.proofs.places.Goals as goal

pub loop-b-init : goal.loop-b-init
unfolding places_of
loop-b-init c = refl

pub loop-b-preserved : goal.loop-b-preserved
loop-b-preserved c = let l = c.loop-b in rw l.invariant (places-more _ l.b-index c.from.result c.from.ensures)
