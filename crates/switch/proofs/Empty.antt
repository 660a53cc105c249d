-- Empty slots: where a plan covers, what it grants in all is what was asked and what is empty; and a full setting grants its hold once for each input.
use mathlib.Core.Path.{◌≡◌, ap}
use mathlib.Core.List.{List}
use Prim.Native.Nat.{ℕ, ◌+◌, ◌*◌, ◌-◌, ◌≤◌, ◌<◌}
use native.Mathlib.Omega.{arith}
use lib.ListN.{get_or}
use Rattle.counting.specs.Sum.{sum}
use Rattle.counting.specs.Count.{δ}
use Rattle.counting.specs.Matrix.{row}
use Rattle.counting.proofs.Sum.{sum-cong, sum_mono, sum-add, sum-mul, sum-const, sum-none, sum_rows}
use Rattle.switch.specs.Demand.{cell, longest}
use Rattle.switch.specs.Plan.{Record, output, grant, total, Covers}
use Rattle.switch.specs.Empty.{all_slots, beyond, empty_slots, AllFull, none, more}
use Rattle.switch.proofs.Demand.{row-le-longest}
use Rattle.switch.proofs.Plan.{full-row}

-- at most T slots are asked of each input
pub asked-most : (N : ℕ) (M : ℕ → ℕ → ℕ) → all_slots N M ≤ N * longest N M
unfolding all_slots
asked-most N M = omega (arith, sum_mono N (row N M) (λ _. longest N M) (row-le-longest N M), sum-const N (longest N M))

-- over all cells, granted less asked: one pass over the two lists
pub beyond-cells : (N : ℕ) (d g : List ℕ) → sum (N * N) (λ k. get_or g k 0 - get_or d k 0) ≡ beyond N (cell N d) (cell N g)
unfolding beyond row cell
beyond-cells N d g = sum_rows N N (λ k. get_or g k 0 - get_or d k 0)

module _ (N : ℕ) (M : ℕ → ℕ → ℕ) (p : List Record) where
  -- a plan that covers grants what was asked, and the empty slots
  pub empty-granted : Covers N M p → empty_slots N M p + all_slots N M ≡ all_slots N (grant p)
  unfolding empty_slots beyond all_slots row
  empty-granted c = omega (
    arith,
    sum-add N (λ i. sum N (λ j. grant p i j - M i j)) (λ i. sum N (λ j. M i j)),
    sum-cong N (λ i. sum N (λ j. grant p i j - M i j) + sum N (λ j. M i j)) (λ i. sum N (λ j. grant p i j)) line,
  )
    where
      line : (i : ℕ) → i < N → sum N (λ j. grant p i j - M i j) + sum N (λ j. M i j) ≡ sum N (λ j. grant p i j)
      line i l = omega (
        arith,
        sum-add N (λ j. grant p i j - M i j) (λ j. M i j),
        sum-cong N (λ j. grant p i j - M i j + M i j) (λ j. grant p i j) (λ j k. omega (arith, c i j l k)),
      )

  -- a plan that grants each pair no more than its cell has none
  pub empty-none : ((i j : ℕ) → i < N → j < N → grant p i j ≤ M i j) → empty_slots N M p ≡ 0
  unfolding empty_slots beyond row
  empty-none h = sum-none N (λ i. sum N (λ j. grant p i j - M i j)) (λ i l. sum-none N (λ j. grant p i j - M i j) (λ j k. omega (arith, h i j l k)))

-- a plan of full settings grants every input its total hold
full-row-grants : (N : ℕ) {p : List Record} → AllFull N p → (i : ℕ) → i < N → row N (grant p) i ≡ total p
unfolding row grant total
full-row-grants N none i l = omega (arith, sum-const N 0)
full-row-grants N (more {r} {p} f fs) i l = omega (
  arith,
  sum-add N (λ j. r.hold * δ (output r i) j) (λ j. grant p i j),
  sum-mul N r.hold (λ j. δ (output r i) j),
  ap (λ (x : ℕ). r.hold * x) (full-row N (output r) f i l),
  full-row-grants N fs i l,
)

-- so N × total in all,
pub full-grants : (N : ℕ) {p : List Record} → AllFull N p → all_slots N (grant p) ≡ N * total p
unfolding all_slots
full-grants N {p} f = omega (arith, sum-cong N (row N (grant p)) (λ _. total p) (full-row-grants N f), sum-const N (total p))

-- and where it covers, its empty slots are N × total less the sum of all cells
pub full-empty : (N : ℕ) (M : ℕ → ℕ → ℕ) {p : List Record} → AllFull N p → Covers N M p → empty_slots N M p + all_slots N M ≡ N * total p
full-empty N M {p} f c = omega (arith, empty-granted N M p c, full-grants N f)
