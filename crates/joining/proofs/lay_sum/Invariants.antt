-- Each turn lays the next piece of the sum behind those before it.
use Rattle.joining.specs.Join.{pieces}
use Rattle.records.proofs.Laying.{Laying}
use Rattle.joining.proofs.lay_sum.Given as goal

abbrev pub invariant-loop-left : goal.invariant-loop-left
invariant-loop-left l = Laying l.edition l.n l.initial.buffer l.at (pieces l.total l.setting) l.buffer l.next (pieces l.left l.setting)

abbrev pub decreases-loop-left : goal.decreases-loop-left
decreases-loop-left l = l.left
