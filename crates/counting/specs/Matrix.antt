-- The line sums of a matrix of N × N numbers, given as a function of row and column. Definitions only.
use Rattle.std.specs.Prelude.{ℕ}
use Rattle.counting.specs.Sum.{sum}

-- the sum of row i
unfoldable pub row : (N : ℕ) (M : ℕ → ℕ → ℕ) (i : ℕ) → ℕ
row N M i = sum N (λ j. M i j)

-- the sum of column j
unfoldable pub col : (N : ℕ) (M : ℕ → ℕ → ℕ) (j : ℕ) → ℕ
col N M j = sum N (λ i. M i j)
