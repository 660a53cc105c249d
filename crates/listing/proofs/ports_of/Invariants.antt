-- Each turn makes the number that of one record more.
use mathlib.Core.Path.{◌≡◌}
use Rattle.listing.specs.Listing.{ports_in}
use Rattle.listing.proofs.ports_of.Given as goal

abbrev pub invariant-loop-rec : goal.invariant-loop-rec
invariant-loop-rec l = l.n ≡ ports_in l.list l.rec-index
