-- No entry from the link on has the setting; where the chain ends, none has it.
use Rattle.tally.proofs.Chain.{Looking}
use Rattle.tally.proofs.entry_of.Given as goal

abbrev pub invariant-loop-link : goal.invariant-loop-link
invariant-loop-link l = Looking l.width l.plan l.count l.entries l.setting l.link

abbrev pub decreases-loop-link : goal.decreases-loop-link
decreases-loop-link l = l.link
