-- Each slot's setting is maximal, so while a pair has slots left every slot serves its input or its output: at most row + column - cell slots.
use mathlib.Core.Path.{◌≡◌, refl, sym, ap, subst}
use mathlib.Core.Logic.{◌≢◌, ◌⊎◌, inl, inr}
use mathlib.Core.Bool.{cond}
use mathlib.Core.List.{List, [], ◌∷◌}
use Prim.Native.Nat.{ℕ, zero, suc, ◌+◌, ◌*◌, ◌-◌, ◌≤◌, ◌<◌}
use native.Mathlib.Decide.{ℕ_discrete, dec_lt}
use native.Mathlib.Omega.{arith}
use lib.ListN.{length}
use lib.Dec.{eqb}
use borrow.Author.Tests.{eq-eqb, ne_eqb}
use Rattle.counting.specs.Sum.{sum}
use Rattle.counting.specs.Count.{δ}
use Rattle.counting.specs.Matrix.{row, col}
use Rattle.counting.proofs.Sum.{sum-at, sum-none, sum-cong, sum-add, sum-swap}
use Rattle.counting.proofs.Count.{sum-δ, δ-same, δ-other}
use Rattle.switch.specs.Demand.{cell, longest}
use Rattle.switch.specs.Plan.{Setting, Record, output, Plan, none, more, grant, total, Covers}
use Rattle.switch.proofs.Demand.{row-le-longest, col-le-longest}
use Rattle.switch.proofs.Plan.{least-total}
use Rattle.rules.specs.Peel.{peel}
use Rattle.rules.specs.Exact.{tab}
use Rattle.rules.specs.Quick.{slot, slots, quick_from, quick_plan, Quick}
use Rattle.rules.proofs.Ports.{find}
use Rattle.rules.proofs.Peel.{peel-back, peel_row, peel-col}
use Rattle.rules.proofs.Peels.{output-tab}
use Rattle.rules.proofs.Slot.{Maximal, slot-maximal, slot-idle}

-- ---- one slot taken off

module _ (N : ℕ) (M : ℕ → ℕ → ℕ) (o : ℕ → ℕ) (m : Maximal N M o) where
  -- a pair with slots left: its input or its output is served, and both of them if it is
  served : (i j : ℕ) → i < N → j < N → 0 < M i j → δ (o i) j < sum N (λ b. δ (o i) b) + sum N (λ a. δ (o a) j)
  served i j li lj p = go (m.none_left i j li lj p) (ℕ_discrete (o i) j)
    where
      go : (o i < N) ⊎ ((a : ℕ) × (a < N) × (o a ≡ j)) → Dec (o i ≡ j) → δ (o i) j < sum N (λ b. δ (o i) b) + sum N (λ a. δ (o a) j)
      go x (yes e) = omega (arith, sum-δ N (o i) (rw e lj), sum-at N (λ a. δ (o a) j) i li, ap (λ y. δ y j) e, δ-same j)
      go (inl x) (no e) = omega (arith, sum-δ N (o i) x, δ-other (o i) j e)
      go (inr x) (no e) = omega (arith, δ-other (o i) j e, sum-at N (λ a. δ (o a) j) x.0 x.1, ap (λ y. δ y j) x.2, δ-same j)

  -- so of the slots of its input and its output, the pair's own counted once, one goes
  cross : (i j : ℕ) → i < N → j < N → 0 < M i j → row N (peel 1 o M) i + col N (peel 1 o M) j + M i j < row N M i + col N M j + peel 1 o M i j
  cross i j li lj p = omega (arith, served i j li lj p, peel_row N 1 o M m.used i li, peel-col N 1 o M m.used j lj, peel-back N 1 o M m.used i j li lj)

  -- and of all slots together
  pub fewer : (i j : ℕ) → i < N → j < N → 0 < M i j → sum N (row N (peel 1 o M)) < sum N (row N M)
  fewer i j li lj p = omega (
    arith,
    sum-cong N (λ a. row N (peel 1 o M) a + sum N (λ b. δ (o a) b)) (row N M) (λ a la. omega (arith, peel_row N 1 o M m.used a la)),
    sum-add N (row N (peel 1 o M)) (λ a. sum N (λ b. δ (o a) b)),
    served i j li lj p,
    sum-at N (λ a. sum N (λ b. δ (o a) b)) i li,
    sum-at N (λ b. sum N (λ a. δ (o a) b)) j lj,
    sum-swap N N (λ a b. δ (o a) b),
  )

-- ---- all slots

-- while slots are left, a pair has some
pub some_left : (N : ℕ) (M : ℕ → ℕ → ℕ) → sum N (row N M) ≢ 0 → (i : ℕ) × (i < N) × ((j : ℕ) × (j < N) × (0 < M i j))
some_left N M h = go (find N (λ i. (j : ℕ) × (j < N) × (0 < M i j)) (λ i. find N (λ j. 0 < M i j) (λ j. dec_lt 0 (M i j))))
  where
    go : Dec ((i : ℕ) × (i < N) × ((j : ℕ) × (j < N) × (0 < M i j))) → (i : ℕ) × (i < N) × ((j : ℕ) × (j < N) × (0 < M i j))
    go (yes r) = r
    go (no r) = absurd (h (sum-none N (row N M) (λ i li. unfold row in sum-none N (M i) (λ j lj. zero-at i j li lj))))
      where
        zero-at : (i j : ℕ) → i < N → j < N → M i j ≡ 0
        zero-at i j li lj = let n : 0 < M i j → ⊥ = λ p. r (i, li, (j, lj, p)) in nul (M i j) n
          where
            nul : (x : ℕ) → (0 < x → ⊥) → x ≡ 0
            nul zero f = refl
            nul (suc x) f = absurd (f (omega arith))

module _ (W N : ℕ) (pos : 0 < N) (wide : N ≤ W) (top : N ≤ 255) where
  -- what is promised of the records of M: where there are any, they are no more than the row, the column and not the cell of some pair hold
  record Serves (M : ℕ → ℕ → ℕ) (p : List Record) : Type 0 where
    plan : Plan N p
    grants : (i j : ℕ) → i < N → j < N → grant p i j ≡ M i j
    ones : total p ≡ length p
    long : (p ≡ []) ⊎ ((i : ℕ) × (j : ℕ) × (i < N) × (j < N) × (0 < M i j) × (length p + M i j ≤ row N M i + col N M j))

  quick-none : (M : ℕ → ℕ → ℕ) → sum N (row N M) ≡ 0 → Serves M []
  unfolding grant total
  quick-none M e = record {
    plan = none;
    grants = λ i j li lj. unfold row in omega (arith, e, sum-at N (row N M) i li, sum-at N (M i) j lj);
    ones = refl;
    long = inl refl;
  }

  -- one slot more in front
  quick-more : (M : ℕ → ℕ → ℕ) (o : ℕ → ℕ) → Maximal N M o → ((i : ℕ) → N ≤ i → o i ≡ 255) → (p : List Record) → sum N (row N M) ≢ 0 → Serves (peel 1 o M) p
      → Serves M (record { hold = 1; outputs = tab W 0 o } ∷ p)
  unfolding grant total
  quick-more M o m idle p ne q = record {
    plan = more {r = record { hold = 1; outputs = tab W 0 o }} (omega arith) (subst (Setting N) (sym joins) m.setting) q.plan;
    grants = λ i j li lj. omega (arith, q.grants i j li lj, peel-back N 1 o M m.used i j li lj, ap (λ (f : ℕ → ℕ). 1 * δ (f i) j) joins);
    ones = omega (arith, q.ones);
    long = inr (go q.long);
  }
    where
      joins : output (record { hold = 1; outputs = tab W 0 o }) ≡ o
      joins = output-tab W N 1 wide o idle

      go : (p ≡ []) ⊎ ((i : ℕ) × (j : ℕ) × (i < N) × (j < N) × (0 < peel 1 o M i j) × (length p + peel 1 o M i j ≤ row N (peel 1 o M) i + col N (peel 1 o M) j))
          → (i : ℕ) × (j : ℕ) × (i < N) × (j < N) × (0 < M i j) × (suc (length p) + M i j ≤ row N M i + col N M j)
      go (inl e) =
          let x = some_left N M ne in
          let j = x.2.0 in
          (x.0, j, x.1, x.2.1, x.2.2, unfold row col in omega (arith, ap length e, x.2.2, sum-at N (M x.0) j x.2.1, sum-at N (λ i. M i j) x.0 x.1))
      go (inr x) = (x.0, x.1, x.2, x.3, left, omega (arith, x.5, cross N M o m x.0 x.1 x.2 x.3 left))
        where
          left : 0 < M x.0 x.1
          left = omega (arith, x.4, peel-back N 1 o M m.used x.0 x.1 x.2 x.3)

  slots-quick : (k s : ℕ) (M : ℕ → ℕ → ℕ) → sum N (row N M) ≤ k → Serves M (slots W k N s M)
  unfolding slots
  slots-quick zero s M h = quick-none M (omega arith)
  slots-quick (suc k) s M h = go (ℕ_discrete (sum N (row N M)) 0) (λ l. slots-quick k (suc s) (peel 1 (slot N M s) M) l)
    where
      m : Maximal N M (slot N M s)
      m = slot-maximal N pos top M s

      go : Dec (sum N (row N M) ≡ 0) → (sum N (row N (peel 1 (slot N M s) M)) ≤ k → Serves (peel 1 (slot N M s) M) (slots W k N (suc s) (peel 1 (slot N M s) M)))
          → Serves M (cond (eqb (sum N (row N M)) 0) [] (record { hold = 1; outputs = tab W 0 (slot N M s) } ∷ slots W k N (suc s) (peel 1 (slot N M s) M)))
      go (yes e) deeper = rw (eq-eqb (sum N (row N M)) 0 e) (quick-none M e)
      go (no ne) deeper =
          let x = some_left N M ne in
          rw (ne_eqb (sum N (row N M)) 0 ne) (quick-more M (slot N M s) m (slot-idle N pos top M s) (slots W k N (suc s) (peel 1 (slot N M s) M)) ne
          (deeper (omega (arith, fewer N M (slot N M s) m x.0 x.2.0 x.1 x.2.1 x.2.2))))

  -- ---- the promises

  module _ (d : List ℕ) where
    quick-is : Serves (cell N d) (quick_plan W N d)
    unfolding quick_plan quick_from
    quick-is = slots-quick (sum N (row N (cell N d))) 0 (cell N d) (omega arith)

    pub quick-plan : Plan N (quick_plan W N d)
    quick-plan = quick-is.plan

    -- every pair is granted exactly its cell
    pub quick-grants : (i j : ℕ) → i < N → j < N → grant (quick_plan W N d) i j ≡ cell N d i j
    quick-grants = quick-is.grants

    pub quick-covers : Covers N (cell N d) (quick_plan W N d)
    quick-covers i j li lj = omega (arith, quick-grants i j li lj)

    -- every record has hold 1 (§8.1)
    pub quick-total : total (quick_plan W N d) ≡ length (quick_plan W N d)
    quick-total = quick-is.ones

    -- how many records there are (§8.4)
    pub quick-at-least : longest N (cell N d) ≤ length (quick_plan W N d)
    quick-at-least = omega (arith, quick-total, least-total N (cell N d) (quick_plan W N d) quick-plan quick-covers)

    pub quick-at-most : length (quick_plan W N d) ≤ 2 * longest N (cell N d) - 1
    quick-at-most = go quick-is.long
      where
        go : (quick_plan W N d ≡ []) ⊎ ((i : ℕ) × (j : ℕ) × (i < N) × (j < N) × (0 < cell N d i j) × (length (quick_plan W N d) + cell N d i j ≤ row N (cell N d) i + col N (cell N d) j))
            → length (quick_plan W N d) ≤ 2 * longest N (cell N d) - 1
        go (inl e) = omega (arith, ap length e)
        go (inr x) = omega (arith, x.4, x.5, row-le-longest N (cell N d) x.0 x.2, col-le-longest N (cell N d) x.1 x.3)

    -- what it is worth
    pub quick : Quick N d (quick_plan W N d)
    quick = record { plan = quick-plan; covers = quick-covers; grants = quick-grants; held = quick-total; least = quick-at-least; most = quick-at-most }
