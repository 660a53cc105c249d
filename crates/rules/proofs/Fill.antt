-- Once a cell is passed its row or its column lacks nothing; if a row lacked something at the end, all columns would be full, and so all rows.
use mathlib.Core.Path.{◌≡◌, refl, sym, ap₂, ◌∙◌}
use mathlib.Core.List.{List}
use Prim.Native.Nat.{ℕ, zero, suc, ◌+◌, ◌*◌, ◌-◌, ◌/◌, ◌%◌, ◌≤◌, ◌<◌, min}
use native.Mathlib.Nat.{div-add-mod'}
use native.Mathlib.Omega.{arith}
use native.Mathlib.Decide.{ℕ_discrete}
use lib.ListN.{length, length-set}
use lib.Arith.{digits_lt}
use Rattle.counting.specs.Sum.{sum}
use Rattle.counting.specs.Matrix.{row, col}
use Rattle.counting.proofs.Sum.{sum-cong, sum-tight}
use Rattle.counting.proofs.Matrix.{total-swap, Raised, raised-row, raised-col, raised-other-row, raised-other-col, raised-up, row-cong, col-cong}
use Rattle.switch.specs.Demand.{cell, longest}
use Rattle.switch.proofs.Demand.{index-inj, place_in, set-raised, row-le-longest, col-le-longest}
use Rattle.rules.specs.Fill.{lack, fill_cell, fill_to, fill, filled}

pub length-fill_to : (N T : ℕ) (d : List ℕ) (k : ℕ) → length (fill_to N T d k) ≡ length d
unfolding fill_to fill_cell
length-fill_to N T d zero = refl
length-fill_to N T d (suc k) = length-set (fill_to N T d k) _ _ ∙ length-fill_to N T d k

pub length-fill : (N T : ℕ) (d : List ℕ) → length (fill N T d) ≡ length d
unfolding fill
length-fill N T d = length-fill_to N T d (N * N)

-- ---- what one cell's filling does to the lines

-- no line is over T, and of every cell passed the row or the column lacks nothing
pub record Filled (N T k : ℕ) (M : ℕ → ℕ → ℕ) : Type 0 where
  pub rows : (a : ℕ) → a < N → row N M a ≤ T
  pub cols : (b : ℕ) → b < N → col N M b ≤ T
  pub done : (a b : ℕ) → a < N → b < N → a * N + b < k → lack N T M a b ≡ 0

module _ (N T : ℕ) (M M' : ℕ → ℕ → ℕ) (i j : ℕ) (li : i < N) (lj : j < N) (r : Raised N M M' i j (lack N T M i j)) (k : ℕ) (ek : i * N + j ≡ k)
    (f : Filled N T k M) where
  row_up : (a : ℕ) → a < N → (row N M a ≤ row N M' a) × (row N M' a ≤ T)
  unfolding lack
  row_up a l = go (ℕ_discrete a i)
    where
      go : Dec (a ≡ i) → (row N M a ≤ row N M' a) × (row N M' a ≤ T)
      go (yes e) = rw e (omega (arith, raised-row N M M' i j _ li lj r, f.rows i li))
      go (no e) = omega (arith, raised-other-row N M M' i j _ li lj r a l e, f.rows a l)

  col-up : (b : ℕ) → b < N → (col N M b ≤ col N M' b) × (col N M' b ≤ T)
  unfolding lack
  col-up b l = go (ℕ_discrete b j)
    where
      go : Dec (b ≡ j) → (col N M b ≤ col N M' b) × (col N M' b ≤ T)
      go (yes e) = rw e (omega (arith, raised-col N M M' i j _ li lj r, f.cols j lj))
      go (no e) = omega (arith, raised-other-col N M M' i j _ li lj r b l e, f.cols b l)

  done_at : lack N T M' i j ≡ 0
  unfolding lack
  done_at = omega (arith, raised-row N M M' i j _ li lj r, raised-col N M M' i j _ li lj r)

  filled-step : Filled N T (suc k) M'
  unfolding lack
  filled-step = record { rows = λ a l. (row_up a l).1; cols = λ b l. (col-up b l).1; done = done }
    where
      done : (a b : ℕ) → a < N → b < N → a * N + b < suc k → lack N T M' a b ≡ 0
      done a b la lb l = go (ℕ_discrete (a * N + b) (i * N + j))
        where
          go : Dec (a * N + b ≡ i * N + j) → lack N T M' a b ≡ 0
          go (yes e) = rw ((index-inj N a b i j lb lj e).0, (index-inj N a b i j lb lj e).1) done_at
          go (no e) = omega (arith, row_up a la, col-up b lb, f.done a b la lb (omega arith))

-- ---- every cell passed, and so every line full

module _ (N T : ℕ) (M : ℕ → ℕ → ℕ) (f : Filled N T (N * N) M) where
  full-row : (a : ℕ) → a < N → row N M a ≡ T
  unfolding lack
  full-row a la = go (ℕ_discrete (row N M a) T)
    where
      go : Dec (row N M a ≡ T) → row N M a ≡ T
      go (yes e) = e
      go (no e) = sum-tight N (row N M) (λ _. T) f.rows all a la
        where
          full : (b : ℕ) → b < N → col N M b ≡ T
          full b lb = omega (arith, f.done a b la lb (digits_lt la lb), f.rows a la, f.cols b lb)

          all : sum N (λ _. T) ≤ sum N (row N M)
          all = omega (arith, total-swap N M, sum-cong N (col N M) (λ _. T) full)

  full-col : (b : ℕ) → b < N → col N M b ≡ T
  full-col b lb = sum-tight N (col N M) (λ _. T) f.cols (omega (arith, total-swap N M, sum-cong N (row N M) (λ _. T) full-row)) b lb

-- ---- the fill of a list

-- the step from k cells to k + 1 raises the cell with index k
fill-raised : (N T : ℕ) (d : List ℕ) → N * N ≤ length d → (k : ℕ) → k < N * N
    → Raised N (cell N (fill_to N T d k)) (cell N (fill_to N T d (suc k))) (k / N) (k % N) (lack N T (cell N (fill_to N T d k)) (k / N) (k % N))
unfolding fill_to fill_cell
fill-raised N T d s k l =
    set-raised N (fill_to N T d k) (omega (arith, length-fill_to N T d k, s)) (k / N) (k % N) _ (place_in N k l).0 (place_in N k l).1

module _ (N T : ℕ) (d : List ℕ) (s : N * N ≤ length d)
    (hr : (a : ℕ) → a < N → row N (cell N d) a ≤ T) (hc : (b : ℕ) → b < N → col N (cell N d) b ≤ T) where
  pub fill_to-filled : (k : ℕ) → k ≤ N * N → Filled N T k (cell N (fill_to N T d k))
  fill_to-filled zero h = unfold fill_to in record { rows = hr; cols = hc; done = λ a b la lb l. omega arith }
  fill_to-filled (suc k) h =
      filled-step N T (cell N (fill_to N T d k)) (cell N (fill_to N T d (suc k))) (k / N) (k % N) (place_in N k h).0 (place_in N k h).1
      (fill-raised N T d s k h) k (div-add-mod' k N) (fill_to-filled k (omega arith))

  -- nothing is taken away
  pub fill_to-above : (k : ℕ) → k ≤ N * N → (a b : ℕ) → a < N → b < N → cell N d a b ≤ cell N (fill_to N T d k) a b
  fill_to-above zero h a b la lb = unfold fill_to in omega arith
  fill_to-above (suc k) h a b la lb = omega (
    arith,
    fill_to-above k (omega arith) a b la lb,
    raised-up N (cell N (fill_to N T d k)) (cell N (fill_to N T d (suc k))) (k / N) (k % N) _ (place_in N k h).0 (place_in N k h).1 (fill-raised N T d s k h) a b la lb,
  )

  -- afterwards every line sums to T
  pub fill-row : (a : ℕ) → a < N → row N (cell N (fill N T d)) a ≡ T
  unfolding fill
  fill-row = full-row N T (cell N (fill N T d)) (fill_to-filled (N * N) (omega arith))

  pub fill-col : (b : ℕ) → b < N → col N (cell N (fill N T d)) b ≡ T
  unfolding fill
  fill-col = full-col N T (cell N (fill N T d)) (fill_to-filled (N * N) (omega arith))

  pub fill-above : (a b : ℕ) → a < N → b < N → cell N d a b ≤ cell N (fill N T d) a b
  unfolding fill
  fill-above = fill_to-above (N * N) (omega arith)

-- ---- lists whose N × N cells agree, as one with cells to spare, are filled alike

module _ (N T : ℕ) (d e : List ℕ) (sd : N * N ≤ length d) (se : N * N ≤ length e)
    (same : (i j : ℕ) → i < N → j < N → cell N d i j ≡ cell N e i j) where
  pub fill_to-same : (k : ℕ) → k ≤ N * N → (i j : ℕ) → i < N → j < N → cell N (fill_to N T d k) i j ≡ cell N (fill_to N T e k) i j
  fill_to-same zero h i j li lj = unfold fill_to in same i j li lj
  fill_to-same (suc k) h i j li lj = go (fill_to-same k (omega arith)) (ℕ_discrete i (k / N)) (ℕ_discrete j (k % N))
    where
      M : ℕ → ℕ → ℕ
      M = cell N (fill_to N T d k)

      M' : ℕ → ℕ → ℕ
      M' = cell N (fill_to N T e k)

      rd : Raised N M (cell N (fill_to N T d (suc k))) (k / N) (k % N) (lack N T M (k / N) (k % N))
      rd = fill-raised N T d sd k h

      re : Raised N M' (cell N (fill_to N T e (suc k))) (k / N) (k % N) (lack N T M' (k / N) (k % N))
      re = fill-raised N T e se k h

      li' : k / N < N
      li' = (place_in N k h).0

      lj' : k % N < N
      lj' = (place_in N k h).1

      go : ((i j : ℕ) → i < N → j < N → M i j ≡ M' i j) → Dec (i ≡ k / N) → Dec (j ≡ k % N) → cell N (fill_to N T d (suc k)) i j ≡ cell N (fill_to N T e (suc k)) i j
      go ih (yes p) (yes q) = rw (p, q) (rd.at ∙ ap₂ ◌+◌ (ih (k / N) (k % N) li' lj') lacks ∙ sym re.at)
        where
          lacks : lack N T M (k / N) (k % N) ≡ lack N T M' (k / N) (k % N)
          lacks = unfold lack in ap₂ (λ x y. min (T - x) (T - y)) (row-cong N M M' ih (k / N) li') (col-cong N M M' ih (k % N) lj')
      go ih (yes p) (no q) = rd.off-col i j li lj q ∙ ih i j li lj ∙ sym (re.off-col i j li lj q)
      go ih (no p) q = rd.off-row i j li lj p ∙ ih i j li lj ∙ sym (re.off-row i j li lj p)

  pub fill-same : (i j : ℕ) → i < N → j < N → cell N (fill N T d) i j ≡ cell N (fill N T e) i j
  unfolding fill
  fill-same = fill_to-same (N * N) (omega arith)

-- ---- the filled demand

module _ (N : ℕ) (d : List ℕ) (s : N * N ≤ length d) where
  pub filled_row : (a : ℕ) → a < N → row N (filled N d) a ≡ longest N (cell N d)
  filled_row = fill-row N (longest N (cell N d)) d s (row-le-longest N (cell N d)) (col-le-longest N (cell N d))

  pub filled-col : (b : ℕ) → b < N → col N (filled N d) b ≡ longest N (cell N d)
  filled-col = fill-col N (longest N (cell N d)) d s (row-le-longest N (cell N d)) (col-le-longest N (cell N d))

  pub filled-above : (a b : ℕ) → a < N → b < N → cell N d a b ≤ filled N d a b
  filled-above = fill-above N (longest N (cell N d)) d s (row-le-longest N (cell N d)) (col-le-longest N (cell N d))
