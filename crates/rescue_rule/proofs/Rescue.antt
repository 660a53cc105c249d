-- The rescued plan: it is sound and covers, so it passes the checker; a plan that needs no rescue is its own; and what it counts.
use mathlib.Core.Path.{◌≡◌, sym, ap, ap₂, ◌∙◌, subst}
use mathlib.Core.List.{List, [], ◌++◌, append-nil}
use Prim.Native.Nat.{ℕ, ◌+◌, ◌*◌, ◌-◌, ◌/◌, ◌%◌, ◌<◌, ◌≤◌, min}
use native.Mathlib.Nat.{mul-mod_left, le_of_eq}
use native.Mathlib.Omega.{arith}
use lib.ListN.{length, get_or, length-append}
use lib.Arith.{digits_lt, digits_div, digits_mod}
use Rattle.counting.specs.Sum.{sum}
use Rattle.counting.specs.Matrix.{row, col}
use Rattle.counting.proofs.Sum.{sum-add, sum-cong, sum_mono, sum-none}
use Rattle.switch.specs.Demand.{cell, longest}
use Rattle.switch.specs.Plan.{Record, grant, total, Covers}
use Rattle.switch.specs.Empty.{beyond, empty_slots}
use Rattle.switch.proofs.Demand.{row-le-longest, col-le-longest, longest-le}
use Rattle.rules.proofs.Peels.{length-tab, get_or-tab}
use Rattle.switch.proofs.Append.{total-append, grant-append}
use Rattle.rules.proofs.Exact.{exact-covers, exact-empty, exact-total, exact-records}
use Rattle.switch.specs.Sound.{Sound, Each}
use Rattle.switch.proofs.Sound.{each_append, each_width}
use Rattle.records.specs.Bytes.{whole, plan_of, bytes}
use Rattle.records.proofs.Bytes.{bytes-size}
use Rattle.records.proofs.Round.{whole-bytes, plan_of-bytes}
use Rattle.records.proofs.Sound.{bytes-fine}
use Rattle.rules.proofs.Sound.{exact-sound}
use Rattle.rescue_rule.specs.Rescue.{kept, rest_of, added, dropped, rescued, Undamaged}
use Rattle.rescue_rule.proofs.Kept.{kept-sound, kept-all, kept_same, dropped-none}

-- ---- what is left uncovered

module _ (N : ℕ) (d : List ℕ) (p : List Record) where
  pub rest-size : length (rest_of N d p) ≡ N * N
  unfolding rest_of
  rest-size = length-tab (N * N) 0 (λ k. get_or d k 0 - grant p (k / N) (k % N))

  -- at each pair the larger of 0 and asked less granted
  pub rest-cell : (i j : ℕ) → i < N → j < N → cell N (rest_of N d p) i j ≡ cell N d i j - grant p i j
  unfolding rest_of cell
  rest-cell i j li lj =
      get_or-tab (N * N) 0 (λ k. get_or d k 0 - grant p (k / N) (k % N)) (i * N + j) 0 (digits_lt {q = i} {m = N} {r = j} {c = N} li lj)
      ∙ ap (λ (k : ℕ). get_or d k 0 - grant p (k / N) (k % N)) (let q : 0 + (i * N + j) ≡ i * N + j = omega arith in q)
      ∙ ap₂ (λ (a b : ℕ). get_or d (i * N + j) 0 - grant p a b) (digits_div i lj) (digits_mod i lj)

  -- its longest line is no longer than the demand's
  pub rest-longest : longest N (cell N (rest_of N d p)) ≤ longest N (cell N d)
  unfolding row col
  rest-longest = longest-le N (longest N (cell N d)) (cell N (rest_of N d p))
      (λ i l. omega (arith, sum_mono N (λ j. cell N (rest_of N d p) i j) (λ j. cell N d i j) (λ j b. omega (arith, rest-cell i j l b)), row-le-longest N (cell N d) i l))
      (λ j l. omega (arith, sum_mono N (λ i. cell N (rest_of N d p) i j) (λ i. cell N d i j) (λ i b. omega (arith, rest-cell i j b l)), col-le-longest N (cell N d) j l))

  -- nothing, where p covers
  pub rest-none : Covers N (cell N d) p → longest N (cell N (rest_of N d p)) ≡ 0
  unfolding row col
  rest-none c = omega (
    arith,
    longest-le N 0 (cell N (rest_of N d p))
        (λ i l. zeros (λ j. cell N (rest_of N d p) i j) (λ j b. omega (arith, rest-cell i j l b, c i j l b)))
        (λ j l. zeros (λ i. cell N (rest_of N d p) i j) (λ i b. omega (arith, rest-cell i j b l, c i j b l))),
  )
    where
      zeros : (f : ℕ → ℕ) → ((k : ℕ) → k < N → f k ≡ 0) → sum N f ≤ 0
      zeros f h = le_of_eq (sum-none N f h)

-- ---- the plan that is written

module _ (W e N : ℕ) (pos : 0 < N) (few : N ≤ W) (small : N ≤ 255) (d plan : List ℕ) where
  enough : N * N ≤ length (rest_of N d (kept W e N plan))
  enough = omega (arith, rest-size N d (kept W e N plan))

  pub rescued-sound : Each (Sound W N) (rescued W e N d plan)
  unfolding rescued
  rescued-sound = each_append (kept-sound W e N plan few small (whole W plan) (omega arith)) (exact-sound W N few pos (rest_of N d (kept W e N plan)) enough)

  -- every pair is granted what the kept records grant and what is added
  pub rescued-grant : (i j : ℕ) → grant (rescued W e N d plan) i j ≡ grant (kept W e N plan) i j + grant (added W N d (kept W e N plan)) i j
  unfolding rescued
  rescued-grant i j = grant-append (kept W e N plan) (added W N d (kept W e N plan)) i j

  added-covers : (i j : ℕ) → i < N → j < N → cell N d i j - grant (kept W e N plan) i j ≤ grant (added W N d (kept W e N plan)) i j
  added-covers i j li lj = omega (arith, exact-covers W N pos few (rest_of N d (kept W e N plan)) enough i j li lj, rest-cell N d (kept W e N plan) i j li lj)

  pub rescued-covers : Covers N (cell N d) (rescued W e N d plan)
  rescued-covers i j li lj = omega (arith, rescued-grant i j, added-covers i j li lj)

  -- ---- what it counts

  pub rescued-length : length (rescued W e N d plan) ≡ length (kept W e N plan) + length (added W N d (kept W e N plan))
  unfolding rescued
  rescued-length = length-append (kept W e N plan) (added W N d (kept W e N plan))

  -- at most min(T', N² - 2N + 2) records are added, T' being the longest line of what is left uncovered
  pub added-records : length (added W N d (kept W e N plan)) ≤ min (longest N (cell N (rest_of N d (kept W e N plan)))) (N * N + 2 - 2 * N)
  added-records = exact-records W N pos few (rest_of N d (kept W e N plan)) enough

  pub rescued-total : total (rescued W e N d plan) ≡ total (kept W e N plan) + longest N (cell N (rest_of N d (kept W e N plan)))
  unfolding rescued
  rescued-total = total-append (kept W e N plan) (added W N d (kept W e N plan)) ∙ ap (λ (t : ℕ). total (kept W e N plan) + t) (exact-total W N pos few (rest_of N d (kept W e N plan)) enough)

  -- empty slots: those of the kept records, and those of the exact plan of what they leave uncovered
  pub rescued-empty : empty_slots N (cell N d) (rescued W e N d plan)
      ≡ beyond N (cell N d) (grant (kept W e N plan)) + empty_slots N (cell N (rest_of N d (kept W e N plan))) (added W N d (kept W e N plan))
  unfolding empty_slots beyond row
  rescued-empty =
      sum-cong N (λ i. sum N (λ j. grant (rescued W e N d plan) i j - cell N d i j)) (λ i. sum N (kept-beyond i) + sum N (added-beyond i)) line
      ∙ sum-add N (λ i. sum N (kept-beyond i)) (λ i. sum N (added-beyond i))
    where
      kept-beyond : ℕ → ℕ → ℕ
      kept-beyond i j = grant (kept W e N plan) i j - cell N d i j

      added-beyond : ℕ → ℕ → ℕ
      added-beyond i j = grant (added W N d (kept W e N plan)) i j - cell N (rest_of N d (kept W e N plan)) i j

      line : (i : ℕ) → i < N → sum N (λ j. grant (rescued W e N d plan) i j - cell N d i j) ≡ sum N (kept-beyond i) + sum N (added-beyond i)
      line i l =
          sum-cong N (λ j. grant (rescued W e N d plan) i j - cell N d i j) (λ j. kept-beyond i j + added-beyond i j)
          (λ j b. omega (arith, rescued-grant i j, added-covers i j l b, rest-cell N d (kept W e N plan) i j l b))
          ∙ sum-add N (kept-beyond i) (added-beyond i)

  -- ---- a plan that needs no rescue

  -- an undamaged plan that covers comes back, record for record, with nothing added; and its list is empty: dropped-none
  module _ (u : Undamaged W e N plan) (c : Covers N (cell N d) (plan_of W plan)) where
    pub added_none : added W N d (kept W e N plan) ≡ []
    added_none = exact-empty W N pos few (rest_of N d (kept W e N plan)) enough (rest-none N d (kept W e N plan) (subst (Covers N (cell N d)) (sym (kept-all W e N plan u)) c))

    pub rescued-same : rescued W e N d plan ≡ plan_of W plan
    unfolding rescued
    rescued-same = ap (λ (q : List Record). kept W e N plan ++ q) added_none ∙ append-nil (kept W e N plan) ∙ kept-all W e N plan u

    -- byte for byte
    pub rescued-identical : ((i : ℕ) → get_or plan i 0 < 256) → bytes e N (rescued W e N d plan) ≡ plan
    rescued-identical byte = ap (bytes e N) (rescued-same ∙ sym (kept-all W e N plan u)) ∙ kept_same W e N plan u few small byte

-- ---- rescuing the rescued plan

-- the bytes of a sound plan are undamaged
pub bytes-undamaged : (W e N : ℕ) → N ≤ W → N ≤ 255 → {p : List Record} → Each (Sound W N) p → Undamaged W e N (bytes e N p)
bytes-undamaged W e N few small {p} s = record {
  even = ap (λ (l : ℕ). l % (W + 4)) (bytes-size e N W (each_width W N s)) ∙ mul-mod_left (length p) (W + 4);
  fine = λ k l. bytes-fine W e N few small s k (omega (arith, whole-bytes e N W (each_width W N s)));
}

module _ (W e N : ℕ) (pos : 0 < N) (few : N ≤ W) (small : N ≤ 255) (d plan : List ℕ) where
  pub rescued-undamaged : Undamaged W e N (bytes e N (rescued W e N d plan))
  rescued-undamaged = bytes-undamaged W e N few small (rescued-sound W e N pos few small d plan)

  -- it changes nothing
  pub rescued-twice : rescued W e N d (bytes e N (rescued W e N d plan)) ≡ rescued W e N d plan
  rescued-twice =
      let back = plan_of-bytes e N W (each_width W N (rescued-sound W e N pos few small d plan)) in
      rescued-same W e N pos few small d (bytes e N (rescued W e N d plan)) rescued-undamaged
      (subst (Covers N (cell N d)) (sym back) (rescued-covers W e N pos few small d plan))
      ∙ back

  -- and drops nothing
  pub twice-none : dropped W e N (bytes e N (rescued W e N d plan)) ≡ []
  twice-none = dropped-none W e N (bytes e N (rescued W e N d plan)) rescued-undamaged
