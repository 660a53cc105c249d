-- Each turn the first of those that are left gives its output up.
use mathlib.Core.Path.{◌≡◌}
use Prim.Native.Nat.{◌-◌}
use Rattle.sets.specs.Label.{absent}
use Rattle.labels.specs.Ports.{outputs_of, inputs_of}
use Rattle.peel.proofs.Release.{Partly}
use Rattle.peel.proofs.release_all.Given as goal

abbrev pub invariant-loop-i : goal.invariant-loop-i
invariant-loop-i l = Partly (inputs_of l.initial.rest) l.initial.pairs.out l.initial.pairs.by (inputs_of l.rest) l.pairs.by (outputs_of l.held) × (l.pairs.out ≡ l.initial.pairs.out)

abbrev pub decreases-loop-i : goal.decreases-loop-i
decreases-loop-i l = 128 - absent 128 (inputs_of l.rest)
