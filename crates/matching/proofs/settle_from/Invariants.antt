-- Every input that is passed is settled, and stays so; where the inputs passed have the outputs of before among them, the others take theirs again.
use Prim.Native.Nat.{ℕ, ◌-◌, ◌<◌, ◌≤◌}
use lib.ListN.{length}
use Rattle.search.specs.Tables.{tried_of, Allowed}
use Rattle.matching.specs.Chosen.{Fixed, SettledPost, Dead}
use Rattle.matching.proofs.settle_from.Given as goal

abbrev pub invariant-loop-i : goal.invariant-loop-i
invariant-loop-i l = (l.i ≤ length l.rows) × SettledPost 128 (length l.rows) (Allowed l.rows) l.initial.pairs.out l.pairs.by l.pairs.out (tried_of l.firm.fixed) l.i × Dead (Allowed l.rows) l.pairs.by (tried_of l.firm.fixed) (tried_of l.firm.dead)
    × ((m : ℕ) → l.last ≤ m → m < length l.rows → Fixed l.before l.i (tried_of l.was))

abbrev pub decreases-loop-i : goal.decreases-loop-i
decreases-loop-i l = length l.rows - l.i
