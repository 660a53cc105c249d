-- After i turns the inputs below i have given up the hold.
use mathlib.Core.Path.{◌≡◌}
use Prim.Native.Nat.{◌-◌, ◌≤◌}
use Rattle.rules.specs.Peel.{peel_to}
use Rattle.board.specs.Level.{out_of}
use Rattle.quiet.specs.Taking.{Loaded}
use Rattle.quiet.proofs.subtract.Given as goal

abbrev pub invariant-loop-i : goal.invariant-loop-i
invariant-loop-i l = (l.i ≤ l.n) × Loaded l.n l.work l.rows × (l.work ≡ peel_to l.n l.hold (out_of l.out) l.initial.work l.i)

abbrev pub decreases-loop-i : goal.decreases-loop-i
decreases-loop-i l = l.n - l.i
