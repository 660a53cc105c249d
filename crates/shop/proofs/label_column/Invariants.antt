-- After i turns the set has the inputs below i with slots for the output.
use Prim.Native.Nat.{◌-◌, ◌≤◌}
use Rattle.shop.specs.Sets.{numbers_of}
use Rattle.shop.specs.Kept.{Column}
use Rattle.shop.proofs.label_column.Given as goal

abbrev pub invariant-loop-i : goal.invariant-loop-i
invariant-loop-i l = (l.i ≤ l.n) × Column l.i l.n l.cells l.output (numbers_of l.asks)

abbrev pub decreases-loop-i : goal.decreases-loop-i
decreases-loop-i l = l.n - l.i
