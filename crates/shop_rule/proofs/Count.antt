-- How many tasks a plan has, and how late they are: one for each pair with slots, and none later than a port's line and switching times allow.
use mathlib.Core.Path.{◌≡◌, refl, sym, ap, ◌∙◌}
use mathlib.Core.List.{List}
use Prim.Native.Nat.{ℕ, ◌+◌, ◌*◌, ◌≤◌, ◌<◌}
use native.Mathlib.Decide.{dec_lt}
use native.Mathlib.Omega.{arith}
use lib.ListN.{length}
use Rattle.counting.specs.Sum.{sum}
use Rattle.counting.specs.Count.{δ}
use Rattle.counting.specs.Matrix.{row, col}
use Rattle.counting.proofs.Sum.{sum-add, sum-mul, sum_mono, sum-cong, sum-const, sum-none}
use Rattle.counting.proofs.Count.{sum-δ}
use Rattle.counting.proofs.Matrix.{row-cong}
use Rattle.switch.specs.Demand.{cell, longest}
use Rattle.switch.proofs.Demand.{row-le-longest, col-le-longest}
use Rattle.shop_rule.specs.Task.{Task, Each, none, more, times}
use Rattle.shop_rule.specs.Shop.{pairs, lasting, timed, shop_plan}
use Rattle.shop_rule.proofs.Task.{each_map}
use Rattle.shop_rule.proofs.Begin.{lasting-none, lasting-some}
use Rattle.shop_rule.proofs.Shop.{shop-once, shop-runs}

-- ---- how many

pub times-all : (N : ℕ) {p : List Task} → Each (λ y. (y.input < N) × (y.output < N)) p → sum N (row N (times p)) ≡ length p
unfolding times row
times-all N none = sum-none N (λ _. sum N (λ _. 0)) (λ i l. sum-none N (λ _. 0) (λ j k. refl))
times-all N (more {x = y} {p = p} a e) = omega (
  arith,
  times-all N e,
  sum-cong N (λ i. sum N (λ j. δ y.input i * δ y.output j + times p i j)) (λ i. δ y.input i + sum N (times p i)) (λ i l. omega (
    arith,
    sum-add N (λ j. δ y.input i * δ y.output j) (times p i),
    sum-mul N (δ y.input i) (λ j. δ y.output j),
    ap (λ z. δ y.input i * z) (sum-δ N y.output a.1),
  )),
  sum-add N (λ i. δ y.input i) (λ i. sum N (times p i)),
  sum-δ N y.input a.0,
)

-- ---- how late

module _ (s c : ℕ) where
  lasting-le : lasting s c ≤ s + c
  lasting-le = go (dec_lt 0 c)
    where
      go : Dec (0 < c) → lasting s c ≤ s + c
      go (yes q) = omega (arith, lasting-some s c q)
      go (no q) = let z : c ≡ 0 = omega arith in rw (z, lasting-none s) (omega arith)

-- a line of N pairs, each with one switching
module _ (N s : ℕ) (M : ℕ → ℕ → ℕ) where
  pub timed-row : (i : ℕ) → row N (timed s M) i ≤ N * s + row N M i
  unfolding row
  timed-row i = omega (arith, sum_mono N (timed s M i) (λ j. s + M i j) (λ j _. lasting-le s (M i j)), sum-add N (λ _. s) (M i), sum-const N s)

  pub timed-col : (j : ℕ) → col N (timed s M) j ≤ N * s + col N M j
  unfolding col
  timed-col j = omega (arith, sum_mono N (λ i. timed s M i j) (λ i. s + M i j) (λ i _. lasting-le s (M i j)), sum-add N (λ _. s) (λ i. M i j), sum-const N s)

-- ---- the promises

module _ (N s : ℕ) (top : N ≤ 255) (d : List ℕ) where
  -- one record for each pair with slots
  pub shop-length : length (shop_plan N s d) ≡ sum N (row N (λ i j. pairs (cell N d i j)))
  shop-length = sym (times-all N (each_map (λ y r. (r.input-in, r.output-in)) (shop-runs N s top d)))
      ∙ sum-cong N (row N (times (shop_plan N s d))) (row N (λ i j. pairs (cell N d i j)))
      (row-cong N (times (shop_plan N s d)) (λ i j. pairs (cell N d i j)) (λ i j li lj. shop-once N s top d i j li lj))

  -- a line of the cells and N switchings, twice
  pub shop-end : Each (λ y. y.end ≤ 2 * (N * s + longest N (cell N d))) (shop_plan N s d)
  shop-end = each_map (λ y r. omega (
    arith,
    r.soon,
    timed-row N s (cell N d) y.input,
    timed-col N s (cell N d) y.output,
    row-le-longest N (cell N d) y.input r.input-in,
    col-le-longest N (cell N d) y.output r.output-in,
  )) (shop-runs N s top d)
