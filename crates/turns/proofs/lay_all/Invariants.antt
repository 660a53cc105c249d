-- Each turn lays one setting behind those before it.
use mathlib.Core.Path.{◌≡◌}
use lib.ListN.{length, get_or}
use Rattle.turns.specs.Second.{turn}
use Rattle.turns.proofs.Turns.{Laying}
use Rattle.turns.proofs.lay_all.Given as goal

abbrev pub invariant-loop-k : goal.invariant-loop-k
invariant-loop-k l = (length l.holds ≡ l.n) × (length l.out ≡ length l.initial.out) × Laying (turn l.way l.n) (λ x. get_or l.holds x 0) l.n l.edition l.n (length l.initial.out) l.initial.plan l.from l.plan l.at l.k
