-- The promises of the exact plan (§6): all follow from its being peeled off the filled demand, whose lines all sum to T.
use mathlib.Core.Path.{◌≡◌, sym, ap, ◌∙◌}
use mathlib.Core.List.{List, []}
use Prim.Native.Nat.{ℕ, ◌+◌, ◌*◌, ◌-◌, ◌≤◌, ◌<◌, min}
use native.Mathlib.Omega.{arith}
use native.Mathlib.Nat.{mul-le-mul_left}
use lib.ListN.{length}
use Rattle.counting.proofs.Matrix.{row-cong, col-cong}
use Rattle.switch.specs.Demand.{cell, longest}
use Rattle.switch.specs.Plan.{Record, Plan, grant, total, Covers}
use Rattle.switch.proofs.Demand.{row-le-longest, col-le-longest, longest-le}
use Rattle.switch.proofs.Plan.{least-total}
use Rattle.rules.specs.Fill.{fill, filled}
use Rattle.rules.specs.Peel.{Peels}
use Rattle.rules.specs.Exact.{exact_plan, Exact}
use Rattle.rules.proofs.Fill.{filled_row, filled-col, filled-above, fill-same}
use Rattle.rules.proofs.ExactFrom.{exact-end, from-peels}
use Rattle.rules.proofs.Peels.{peels-unique, peels-grant, peels-total, peels-plan, peels-cong}
use Rattle.rules.proofs.Room.{peels-room, length-le-total}

-- W is the number of outputs of a record, 64 or another edition's; d may have cells to spare
module _ (W N : ℕ) (pos : 0 < N) (top : N ≤ W) (d : List ℕ) (s : N * N ≤ length d) where
  -- no records where T is 0 (§6.1)
  pub exact-empty : longest N (cell N d) ≡ 0 → exact_plan W N d ≡ []
  exact-empty e = unfold exact_plan in exact-end W N (filled N d) (filled_row N d s 0 pos ∙ e)

  -- all lines of the filled demand have one sum (§6.2): filled_row, filled-col. Peeling it makes the plan (§6.3),
  pub exact-peels : Peels W N (filled N d) (exact_plan W N d)
  unfolding exact_plan
  exact-peels = from-peels W N pos top (longest N (cell N d)) (filled N d) (filled_row N d s) (filled-col N d s)

  -- and any plan made so is this one
  pub exact-only : (p : List Record) → Peels W N (filled N d) p → p ≡ exact_plan W N d
  exact-only p h = peels-unique N pos h exact-peels

  -- its records are settings, no output twice, each held at least 1
  pub exact-plan : Plan N (exact_plan W N d)
  exact-plan = peels-plan N exact-peels

  -- what is granted is the filled demand (§6.4)
  pub exact-grants : (i j : ℕ) → i < N → j < N → grant (exact_plan W N d) i j ≡ filled N d i j
  exact-grants = peels-grant N exact-peels

  -- it covers the demand
  pub exact-covers : Covers N (cell N d) (exact_plan W N d)
  exact-covers i j li lj = omega (arith, exact-grants i j li lj, filled-above N d s i j li lj)

  -- its total hold is T
  pub exact-total : total (exact_plan W N d) ≡ longest N (cell N d)
  exact-total = peels-total N exact-peels 0 pos ∙ filled_row N d s 0 pos

  -- and no plan that covers the demand, with full settings or with idle inputs, has a lower total hold
  pub exact-shortest : (p : List Record) → Plan N p → Covers N (cell N d) p → total (exact_plan W N d) ≤ total p
  exact-shortest p q c = omega (arith, exact-total, least-total N (cell N d) p q c)

  -- it has at most T records, and at most N² - 2N + 2
  pub exact-records : length (exact_plan W N d) ≤ min (longest N (cell N d)) (N * N + 2 - 2 * N)
  exact-records = omega (arith, exact-total, length-le-total exact-plan, peels-room N pos exact-peels)

  -- and so at most N² - N + 1 (§6.5)
  pub exact-records-paper : length (exact_plan W N d) ≤ N * N - N + 1
  exact-records-paper = omega (arith, exact-records, mul-le-mul_left {m = 1} N pos)

  -- what it is worth
  pub exact : Exact N d (exact_plan W N d)
  exact = record { plan = exact-plan; covers = exact-covers; held = exact-total; shortest = exact-shortest; few = exact-records }

-- ---- demands with the same N × N cells, as a demand and a longer working copy, have the same exact plan

longest-at-most : (N : ℕ) (M M' : ℕ → ℕ → ℕ) → ((i j : ℕ) → i < N → j < N → M i j ≡ M' i j) → longest N M ≤ longest N M'
longest-at-most N M M' e = longest-le N (longest N M') M
    (λ i l. omega (arith, row-cong N M M' e i l, row-le-longest N M' i l)) (λ j l. omega (arith, col-cong N M M' e j l, col-le-longest N M' j l))

pub longest-cong : (N : ℕ) (M M' : ℕ → ℕ → ℕ) → ((i j : ℕ) → i < N → j < N → M i j ≡ M' i j) → longest N M ≡ longest N M'
longest-cong N M M' e = omega (arith, longest-at-most N M M' e, longest-at-most N M' M (λ i j li lj. sym (e i j li lj)))

pub exact-cong : (W N : ℕ) → 0 < N → N ≤ W → (d e : List ℕ) → N * N ≤ length d → N * N ≤ length e
    → ((i j : ℕ) → i < N → j < N → cell N d i j ≡ cell N e i j) → exact_plan W N d ≡ exact_plan W N e
exact-cong W N pos top d e sd se same = exact-only W N pos top e se (exact_plan W N d) (peels-cong N (exact-peels W N pos top d sd) (filled N e) alike)
  where
    alike : (i j : ℕ) → i < N → j < N → filled N d i j ≡ filled N e i j
    alike i j li lj = fill-same N (longest N (cell N d)) d e sd se same i j li lj ∙ ap (λ t. cell N (fill N t e) i j) (longest-cong N (cell N d) (cell N e) same)
