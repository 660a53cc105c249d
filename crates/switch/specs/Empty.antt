-- The slots that a plan connects and that carry nothing asked for (§3.9). Definitions only.
use Rattle.std.specs.Prelude.{List, [], ◌∷◌, ℕ, ◌-◌}
use Rattle.counting.specs.Sum.{sum}
use Rattle.counting.specs.Matrix.{row}
use Rattle.switch.specs.Plan.{Full, Record, output, grant}

-- all slots that M asks, or grants: the sum of all cells
unfoldable pub all_slots : (N : ℕ) (M : ℕ → ℕ → ℕ) → ℕ
all_slots N M = sum N (row N M)

-- over all pairs, granted (G) less asked (M), summed
unfoldable pub beyond : (N : ℕ) (M G : ℕ → ℕ → ℕ) → ℕ
beyond N M G = sum N (row N (λ i j. G i j - M i j))

-- a plan's empty slots
unfoldable pub empty_slots : (N : ℕ) (M : ℕ → ℕ → ℕ) (p : List Record) → ℕ
empty_slots N M p = beyond N M (grant p)

-- every setting of the plan joins every input
pub data AllFull (N : ℕ) : List Record → Type 0 where
  none : AllFull N []
  more : {r : Record} {p : List Record} → Full N (output r) → AllFull N p → AllFull N (r ∷ p)
