-- A step that is laid is passed, so what is left of the tape falls; the place reached never leaves the tape.
use Rattle.std.proofs.Common.{length, ◌-◌, ◌≡◌, ◌≤◌}
use Rattle.input.specs.Counts.{IsPrefixLen}
use Rattle.vectors.proofs.tape.next_call.Given as goal

abbrev pub invariant-loop-here : goal.invariant-loop-here
invariant-loop-here l = (l.at ≤ l.here) × (l.here ≤ length l.tape) × (length l.bytes ≡ length l.initial.bytes) × IsPrefixLen l.laid l.bytes

abbrev pub decreases-loop-here : goal.decreases-loop-here
decreases-loop-here l = length l.tape - l.here
