-- The outputs passed that are port 63 are counted, and with a count of 1 at most no two are.
use Rattle.apart.proofs.Tally.{Tallied}
use Rattle.apart.proofs.last_twice.Given as goal

abbrev pub invariant-loop-b : goal.invariant-loop-b
invariant-loop-b l = Tallied 63 l.outputs l.b-index l.count
