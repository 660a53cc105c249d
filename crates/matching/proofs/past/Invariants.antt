-- Each turn passes the lowest of the rest, so that what is passed last is the last.
use Prim.Native.Nat.{◌-◌}
use Rattle.sets.specs.Label.{absent}
use Rattle.labels.specs.Ports.{inputs_of}
use Rattle.matching.proofs.Waiting.{Passed}
use Rattle.matching.proofs.past.Given as goal

abbrev pub invariant-loop-i : goal.invariant-loop-i
invariant-loop-i l = Passed (inputs_of l.initial.rest) (inputs_of l.rest) l.last

abbrev pub decreases-loop-i : goal.decreases-loop-i
decreases-loop-i l = 128 - absent 128 (inputs_of l.rest)
