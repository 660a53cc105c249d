-- What is left to compare decides, where what is passed is the same.
use mathlib.Core.Path.{◌≡◌}
use mathlib.Core.Bool.{◌&&◌}
use Prim.Native.Nat.{◌-◌, ◌≤◌}
use lib.ListN.{length, drop}
use Rattle.tally.specs.Sums.{same_outputs}
use Rattle.tally.proofs.same_outputs.Given as goal

abbrev pub invariant-loop-i : goal.invariant-loop-i
invariant-loop-i l = (l.i ≤ length l.a) × (l.i-end ≡ length l.a) × (same_outputs l.a l.b ≡ (l.same && same_outputs (drop l.i l.a) (drop l.i l.b)))

abbrev pub decreases-loop-i : goal.decreases-loop-i
decreases-loop-i l = length l.a - l.i
