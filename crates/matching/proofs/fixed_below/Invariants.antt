-- The outputs of the inputs passed are marked, and no others.
use Prim.Native.Nat.{◌-◌, ◌≤◌}
use Rattle.search.specs.Tables.{tried_of}
use Rattle.matching.specs.Chosen.{Fixed}
use Rattle.matching.proofs.fixed_below.Given as goal

abbrev pub invariant-loop-i : goal.invariant-loop-i
invariant-loop-i l = (l.i ≤ l.kept) × Fixed l.pairs.out l.i (tried_of l.fixed)

abbrev pub decreases-loop-i : goal.decreases-loop-i
decreases-loop-i l = l.kept - l.i
