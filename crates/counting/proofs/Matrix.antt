-- The laws of line sums: what a change of one cell does to them, and that all rows together are all columns together.
use mathlib.Core.Path.{◌≡◌}
use mathlib.Core.Logic.{◌≢◌}
use Prim.Native.Nat.{ℕ, ◌+◌, ◌≤◌, ◌<◌}
use native.Mathlib.Omega.{arith}
use native.Mathlib.Decide.{ℕ_discrete}
use Rattle.counting.specs.Sum.{sum}
use Rattle.counting.specs.Matrix.{row, col}
use Rattle.counting.proofs.Sum.{sum-change, sum-cong, sum-swap}

-- all rows together are all columns together
pub total-swap : (N : ℕ) (M : ℕ → ℕ → ℕ) → sum N (row N M) ≡ sum N (col N M)
unfolding row col
total-swap N M = sum-swap N N M

-- lines of matrices that agree
pub row-cong : (N : ℕ) (M M' : ℕ → ℕ → ℕ) → ((i j : ℕ) → i < N → j < N → M i j ≡ M' i j) → (i : ℕ) → i < N → row N M i ≡ row N M' i
unfolding row
row-cong N M M' e i l = sum-cong N (λ j. M i j) (λ j. M' i j) (λ j k. e i j l k)

pub col-cong : (N : ℕ) (M M' : ℕ → ℕ → ℕ) → ((i j : ℕ) → i < N → j < N → M i j ≡ M' i j) → (j : ℕ) → j < N → col N M j ≡ col N M' j
unfolding col
col-cong N M M' e j l = sum-cong N (λ i. M i j) (λ i. M' i j) (λ i k. e i j k l)

-- M' is M with v more at row i, column j
pub record Raised (N : ℕ) (M M' : ℕ → ℕ → ℕ) (i j v : ℕ) : Type 0 where
  pub at : M' i j ≡ M i j + v
  pub off-row : (a b : ℕ) → a < N → b < N → a ≢ i → M' a b ≡ M a b
  pub off-col : (a b : ℕ) → a < N → b < N → b ≢ j → M' a b ≡ M a b

module _ (N : ℕ) (M M' : ℕ → ℕ → ℕ) (i j v : ℕ) (li : i < N) (lj : j < N) (r : Raised N M M' i j v) where
  pub raised-row : row N M' i ≡ row N M i + v
  unfolding row
  raised-row = omega (arith, r.at, sum-change N (λ b. M' i b) (λ b. M i b) j lj (λ b l ne. r.off-col i b li l ne))

  pub raised-col : col N M' j ≡ col N M j + v
  unfolding col
  raised-col = omega (arith, r.at, sum-change N (λ a. M' a j) (λ a. M a j) i li (λ a l ne. r.off-row a j l lj ne))

  pub raised-other-row : (a : ℕ) → a < N → a ≢ i → row N M' a ≡ row N M a
  unfolding row
  raised-other-row a l ne = sum-cong N (λ b. M' a b) (λ b. M a b) (λ b k. r.off-row a b l k ne)

  pub raised-other-col : (b : ℕ) → b < N → b ≢ j → col N M' b ≡ col N M b
  unfolding col
  raised-other-col b l ne = sum-cong N (λ a. M' a b) (λ a. M a b) (λ a k. r.off-col a b k l ne)

  -- all cells together are v more
  pub raised_all : sum N (row N M') ≡ sum N (row N M) + v
  raised_all = omega (arith, raised-row, sum-change N (row N M') (row N M) i li raised-other-row)

  pub raised-up : (a b : ℕ) → a < N → b < N → M a b ≤ M' a b
  raised-up a b la lb = go (ℕ_discrete a i) (ℕ_discrete b j)
    where
      go : Dec (a ≡ i) → Dec (b ≡ j) → M a b ≤ M' a b
      go (yes p) (yes q) = rw (p, q) (omega (arith, r.at))
      go (yes p) (no q) = omega (arith, r.off-col a b la lb q)
      go (no p) q = omega (arith, r.off-row a b la lb p)
