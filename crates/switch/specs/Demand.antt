-- A demand's cells, its lines and the longest of them (§3.3, §3.4). Definitions only.
use Rattle.std.specs.Prelude.{◌≡◌, cond, List, ℕ, ◌+◌, ◌*◌, ◌-◌, ◌≤◌, max, length, get_or, ltb}
use Rattle.counting.specs.Sum.{most}
use Rattle.counting.specs.Matrix.{row, col}

-- what is asked for the pair (i, j), which stands at i × N + j (§3.3); 0 past the list's end
unfoldable pub cell : (N : ℕ) (d : List ℕ) (i j : ℕ) → ℕ
cell N d i j = get_or d (i * N + j) 0

-- the sum of line k (§3.4): the rows come first, then the columns
unfoldable pub line : (N : ℕ) (d : List ℕ) (k : ℕ) → ℕ
line N d k = cond (ltb k N) (row N (cell N d) k) (col N (cell N d) (k - N))

-- T, the largest sum of a line (§3.4)
unfoldable pub longest : (N : ℕ) (M : ℕ → ℕ → ℕ) → ℕ
longest N M = max (most N (row N M)) (most N (col N M))

-- inner: lent room for m cells, all 0
pub record Blank (m : ℕ) (g : List ℕ) : Type 0 where
  pub room : m ≤ length g
  pub clear : (k : ℕ) → get_or g k 0 ≡ 0
