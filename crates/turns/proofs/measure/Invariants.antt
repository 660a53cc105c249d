-- Each turn counts one setting's records and adds its hold, whichever the settings are: the bounds are those of any one choice of them.
use Prim.Native.Nat.{ℕ}
use lib.ListN.{get_or}
use Rattle.turns.proofs.Turns.{Counted}
use Rattle.turns.proofs.measure.Given as goal

abbrev pub invariant-loop-hold : goal.invariant-loop-hold
invariant-loop-hold l = (τ : ℕ → ℕ → ℕ) → Counted τ (λ x. get_or l.holds x 0) l.n l.hold-index l.records l.total
