-- A call ends after the place where it starts, so what is left of the tape falls.
use Rattle.std.proofs.Common.{length, ◌-◌, ◌≤◌}
use Rattle.vectors.proofs.run_all.Given as goal

abbrev pub invariant-loop-at : goal.invariant-loop-at
invariant-loop-at g l = l.at ≤ length l.tape

abbrev pub decreases-loop-at : goal.decreases-loop-at
decreases-loop-at g l = length l.tape - l.at
