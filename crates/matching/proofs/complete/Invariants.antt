-- Each turn seats the first that waits and leaves the others where they are, until nobody waits or one is refused.
use Prim.Native.Nat.{◌-◌}
use lib.ListN.{length}
use Rattle.sets.specs.Label.{Sub, absent}
use Rattle.labels.specs.Ports.{outputs_of, inputs_of}
use Rattle.search.specs.Tables.{tried_of, Allowed}
use Rattle.search.specs.Search.{Around}
use Rattle.matching.specs.Chosen.{Seating}
use Rattle.matching.proofs.complete.Given as goal

abbrev pub invariant-loop-i : goal.invariant-loop-i
invariant-loop-i l = Seating 128 (length l.rows) (Allowed l.rows) l.pairs.by l.pairs.out (outputs_of l.seats.held) (inputs_of l.seats.waiting) × Sub (inputs_of l.seats.waiting) (inputs_of l.initial.seats.waiting) × Around (length l.rows) l.initial.pairs.by l.initial.pairs.out (tried_of l.fixed) l.pairs.by l.pairs.out

abbrev pub decreases-loop-i : goal.decreases-loop-i
decreases-loop-i l = 128 - absent 128 (inputs_of l.seats.waiting)
