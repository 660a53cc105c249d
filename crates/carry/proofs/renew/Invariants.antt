-- The cells below k have had their turn; the others still hold what was granted.
use Rattle.carry.proofs.Rest.{Turned}
use Rattle.carry.proofs.renew.Given as goal

abbrev pub invariant-loop-k : goal.invariant-loop-k
invariant-loop-k l = Turned l.asked l.wished l.initial.granted l.granted l.k
