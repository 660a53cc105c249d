-- Fill (§6.2): cells in order are topped up, each by as much as both its lines allow. Definitions only.
use Rattle.std.specs.Prelude.{List, ℕ, zero, suc, ◌+◌, ◌*◌, ◌-◌, ◌/◌, ◌%◌, min, set}
use Rattle.counting.specs.Matrix.{row, col}
use Rattle.switch.specs.Demand.{cell, longest}

-- the smaller of what row i and column j lack of T
unfoldable pub lack : (N T : ℕ) (M : ℕ → ℕ → ℕ) (i j : ℕ) → ℕ
lack N T M i j = min (T - row N M i) (T - col N M j)

-- it is added to cell i×N + j
unfoldable pub fill_cell : (N T : ℕ) (d : List ℕ) (i j : ℕ) → List ℕ
fill_cell N T d i j = set d (i * N + j) (cell N d i j + lack N T (cell N d) i j)

-- the first k cells filled, in order, row by row
unfoldable pub fill_to : ℕ → ℕ → List ℕ → ℕ → List ℕ
fill_to N T d zero = d
fill_to N T d (suc k) = fill_cell N T (fill_to N T d k) (k / N) (k % N)

-- all N × N cells filled to T
unfoldable pub fill : (N T : ℕ) (d : List ℕ) → List ℕ
fill N T d = fill_to N T d (N * N)

-- the filled demand: its cells, filled to its own T
abbrev pub filled : (N : ℕ) (d : List ℕ) → ℕ → ℕ → ℕ
filled N d = cell N (fill N (longest N (cell N d)) d)
