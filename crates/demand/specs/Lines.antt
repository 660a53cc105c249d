-- The lines of a demand, counted with the inputs before the outputs, and the first that is too long. Definitions only.
use Rattle.std.specs.Prelude.{cond, List, ℕ, zero, suc, ◌+◌, ◌*◌, ◌-◌, ◌≤◌, length, ltb}
use Rattle.switch.specs.Demand.{cell, line, longest}
use Rattle.switch.specs.declared.Side.{Side}
use Rattle.switch.specs.declared.Side.TheVariants.{Input, Output}

-- the first of k, k + 1, .. at which f is over c, m of them; and k + m where there is none
unfoldable pub over : ℕ → (ℕ → ℕ) → ℕ → ℕ → ℕ
over c f zero k = k
over c f (suc m) k = cond (ltb c (f k)) k (over c f m (suc k))

-- line k's side, and its number there
unfoldable pub line_side : (N k : ℕ) → Side
line_side N k = cond (ltb k N) (Input (record { 0 = k })) (Output (record { 0 = k - N }))

-- the first line that sums over 65,535, inputs before outputs (§9.8)
unfoldable pub line_over : (N : ℕ) (d : List ℕ) → Side
line_over N d = line_side N (over 65535 (line N d) (N + N) 0)

-- inner: enough cells for N ports, of which there are no more than the largest switch has
pub record Sized (N : ℕ) (d : List ℕ) : Type 0 where
  pub few : N ≤ 128
  pub room : N * N ≤ length d

-- inner: the same, and no line sums over 65,535
pub record Short (N : ℕ) (d : List ℕ) : Type 0 where
  pub sized : Sized N d
  pub lines : longest N (cell N d) ≤ 65535
