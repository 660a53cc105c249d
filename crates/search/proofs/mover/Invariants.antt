-- An output whose holder may not take the wanted one is not what is looked for, so that one that is stays among the rest, and the loop ends at it.
use Prim.Native.Nat.{ℕ, ◌-◌}
use Rattle.sets.specs.Label.{In, Sub, absent}
use Rattle.labels.specs.Ports.{outputs_of}
use Rattle.search.specs.Tables.{Allowed}
use Rattle.search.specs.Search.{Mover}
use Rattle.search.proofs.mover.Given as goal

-- what is looked for is left
abbrev pub invariant-loop-j : goal.invariant-loop-j
invariant-loop-j l = Sub (outputs_of l.rest) (outputs_of l.initial.rest) × ((j : ℕ) → Mover (Allowed l.rows) l.pairs.by (outputs_of l.initial.rest) l.wanted.0 j → In (outputs_of l.rest) j)

abbrev pub decreases-loop-j : goal.decreases-loop-j
decreases-loop-j l = 128 - absent 128 (outputs_of l.rest)
