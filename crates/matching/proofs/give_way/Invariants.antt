-- Each turn keeps one input fewer, or follows outputs that were not seen: so it ends; and what it follows is come to with those kept.
use Prim.Native.Nat.{◌+◌, ◌*◌}
use Rattle.sets.specs.Label.{absent}
use Rattle.labels.specs.Ports.{outputs_of}
use Rattle.search.specs.Tables.{Allowed}
use Rattle.matching.proofs.Giving.{Giving}
use Rattle.matching.proofs.give_way.Given as goal

abbrev pub invariant-loop-firm : goal.invariant-loop-firm
invariant-loop-firm l = Giving (Allowed l.rows) l.pairs.by l.pairs.out (outputs_of l.initial.met) l.from (outputs_of l.met) l.firm (outputs_of l.seen)

abbrev pub decreases-loop-firm : goal.decreases-loop-firm
decreases-loop-firm l = 129 * l.firm + absent 128 (outputs_of l.seen)
