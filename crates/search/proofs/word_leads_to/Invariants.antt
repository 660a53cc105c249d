-- Each output of the word is met in turn; its holder is there, since it is not free, and its row is added.
use Prim.Native.Nat.{◌-◌}
use Rattle.sets.specs.Label.{absent}
use Rattle.labels.specs.Ports.{outputs_of}
use Rattle.search.specs.Tables.{Allowed}
use Rattle.search.proofs.Waves.{Part}
use Rattle.search.proofs.word_leads_to.Given as goal

abbrev pub invariant-loop-j : goal.invariant-loop-j
invariant-loop-j l = Part (Allowed l.rows) l.pairs.by l.initial.rest.0 l.base (outputs_of l.initial.outputs) l.rest.0 (outputs_of l.outputs)

abbrev pub decreases-loop-j : goal.decreases-loop-j
decreases-loop-j l = 64 - absent 64 l.rest.0
