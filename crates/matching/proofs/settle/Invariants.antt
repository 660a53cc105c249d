-- Its output only becomes lower, and where no lower one can be had they are in a closed set: the one it has is the best.
use Prim.Native.Nat.{◌+◌}
use lib.ListN.{length}
use Rattle.sets.specs.Label.{absent}
use Rattle.search.specs.Tables.{tried_of, Allowed}
use Rattle.matching.proofs.Settling.{Lower}
use Rattle.matching.proofs.settle.Given as goal

abbrev pub invariant-loop-lowest : goal.invariant-loop-lowest
invariant-loop-lowest l = Lower 128 (length l.rows) (Allowed l.rows) l.initial.pairs.out l.pairs.by l.pairs.out (tried_of l.fixed) (tried_of l.dead) l.own.0 l.i.0

abbrev pub decreases-loop-lowest : goal.decreases-loop-lowest
decreases-loop-lowest l = l.own.0 + absent 128 (tried_of l.dead)
