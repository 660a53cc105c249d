-- After i turns the inputs below i have given up the hold, the labels are in step, and those are told whose cell that emptied.
use mathlib.Core.Path.{◌≡◌}
use Prim.Native.Nat.{◌-◌, ◌≤◌}
use Rattle.labels.specs.Ports.{inputs_of}
use Rattle.rules.specs.Peel.{peel_to}
use Rattle.board.specs.Level.{out_of}
use Rattle.board.specs.Labelled.{Labelled, Emptied}
use Rattle.board.proofs.subtract.Given as goal

abbrev pub invariant-loop-i : goal.invariant-loop-i
invariant-loop-i l = (l.i ≤ l.n) × (l.cells ≡ peel_to l.n l.hold (out_of l.out) l.initial.cells l.i) × Labelled l.n l.cells l.rows × Emptied l.n l.cells l.out (inputs_of l.emptied) l.i

abbrev pub decreases-loop-i : goal.decreases-loop-i
decreases-loop-i l = l.n - l.i
