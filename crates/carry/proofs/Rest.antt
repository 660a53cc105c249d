-- The new demand, pair by pair: what was asked, before and newly, is the new demand and what the smaller of asked and granted served.
use mathlib.Core.Path.{◌≡◌, refl, sym, ap, ap₂, ◌∙◌}
use mathlib.Core.List.{List, []}
use mathlib.Core.Logic.{dite}
use Prim.Native.Nat.{ℕ, zero, suc, ◌+◌, ◌*◌, ◌-◌, ◌/◌, ◌%◌, ◌<◌, ◌≤◌}
use native.Mathlib.Omega.{arith}
use native.Mathlib.Decide.{ℕ_discrete}
use lib.ListN.{length, get_or, take, set, length-set}
use lib.Seq.{ext_get_or, get_or-take, length-take-le, get_or-set_same, get_or-set_other}
use lib.Arith.{digits_div, digits_mod, digits_lt}
use Rattle.counting.specs.Matrix.{row}
use Rattle.counting.proofs.Sum.{sum-cong, sum-add, sum-at}
use Rattle.switch.specs.Demand.{cell, longest}
use Rattle.switch.specs.Plan.{Record, grant, Covers}
use Rattle.switch.specs.Empty.{all_slots}
use Rattle.switch.proofs.Demand.{place_in, row-le-longest}
use Rattle.records.specs.Bytes.{whole, plan_from, plan_of}
use Rattle.grants.specs.Grants.{Grants}
use Rattle.grants.proofs.Grant.{cell-index}
use Rattle.carry.specs.Rest.{list_of, renewed, useful, new_demand, Renewing, Renewed}

-- ---- lists by their elements

pub length-list_of : (m : ℕ) (f : ℕ → ℕ) → length (list_of m f) ≡ m
unfolding list_of
length-list_of zero f = refl
length-list_of (suc m) f = ap suc (length-list_of m (λ k. f (suc k)))

pub get_or-list_of : (m : ℕ) (f : ℕ → ℕ) (k : ℕ) → k < m → get_or (list_of m f) k 0 ≡ f k
unfolding list_of
get_or-list_of zero f k l = absurd (omega arith)
get_or-list_of (suc m) f zero l = refl
get_or-list_of (suc m) f (suc k) l = get_or-list_of m (λ i. f (suc i)) k (omega arith)

-- ---- sums over all pairs

all-add : (N : ℕ) (A B : ℕ → ℕ → ℕ) → all_slots N (λ i j. A i j + B i j) ≡ all_slots N A + all_slots N B
unfolding all_slots row
all-add N A B = sum-cong N _ (λ i. row N A i + row N B i) (λ i l. sum-add N (λ j. A i j) (λ j. B i j)) ∙ sum-add N (row N A) (row N B)

all-cong : (N : ℕ) (A B : ℕ → ℕ → ℕ) → ((i j : ℕ) → i < N → j < N → A i j ≡ B i j) → all_slots N A ≡ all_slots N B
unfolding all_slots row
all-cong N A B e = sum-cong N (row N A) (row N B) (λ i li. sum-cong N (λ j. A i j) (λ j. B i j) (λ j lj. e i j li lj))

-- ---- the new demand

module _ (N : ℕ) (asked wished : List ℕ) (p : List Record) where
  pub new-size : length (new_demand N asked wished p) ≡ N * N
  unfolding new_demand
  new-size = length-list_of (N * N) _

  new-at : (k : ℕ) → k < N * N → get_or (new_demand N asked wished p) k 0 ≡ renewed (cell N asked) (grant p) (cell N wished) (k / N) (k % N)
  unfolding new_demand
  new-at k l = get_or-list_of (N * N) (λ x. renewed (cell N asked) (grant p) (cell N wished) (x / N) (x % N)) k l

  module _ (i j : ℕ) (li : i < N) (lj : j < N) where
    -- a cell of the new demand
    pub new-cell : cell N (new_demand N asked wished p) i j ≡ (cell N asked i j - grant p i j) + cell N wished i j
    unfolding cell renewed
    new-cell =
        new-at (i * N + j) (digits_lt {q = i} {m = N} {r = j} {c = N} li lj)
        ∙ ap₂ {C = ℕ} (λ (a b : ℕ). renewed (cell N asked) (grant p) (cell N wished) a b) (digits_div i lj) (digits_mod i lj)

    -- the books balance at each pair
    pub kept : cell N asked i j + cell N wished i j ≡ cell N (new_demand N asked wished p) i j + useful (cell N asked) (grant p) i j
    unfolding useful
    kept = omega (arith, new-cell)

  -- and summed over all pairs
  pub kept-all : all_slots N (cell N asked) + all_slots N (cell N wished)
      ≡ all_slots N (cell N (new_demand N asked wished p)) + all_slots N (useful (cell N asked) (grant p))
  kept-all =
      sym (all-add N (cell N asked) (cell N wished))
      ∙ all-cong N _ _ kept
      ∙ all-add N (cell N (new_demand N asked wished p)) (useful (cell N asked) (grant p))

  rest-none : (k : ℕ) → cell N asked (k / N) (k % N) ≤ grant p (k / N) (k % N)
      → renewed (cell N asked) (grant p) (cell N wished) (k / N) (k % N) ≡ get_or wished k 0
  unfolding renewed
  rest-none k c = omega (arith, cell-index N wished k)

  -- a plan that covers leaves the new wishes
  pub covered-rest : length wished ≡ N * N → Covers N (cell N asked) p → new_demand N asked wished p ≡ wished
  covered-rest size covers =
      ext_get_or 0 (new_demand N asked wished p) wished (new-size ∙ sym size)
      (λ k l. let in_all : k < N * N = omega (arith, new-size) in let q = place_in N k in_all in
      new-at k in_all ∙ rest-none k (covers (k / N) (k % N) q.0 q.1))

  pair-at : (before : List ℕ) (k : ℕ) → cell N before (k / N) (k % N) ≡ grant p (k / N) (k % N)
      → (get_or asked k 0 - get_or before k 0) + get_or wished k 0 ≡ renewed (cell N asked) (grant p) (cell N wished) (k / N) (k % N)
  unfolding renewed
  pair-at before k e = omega (arith, e, cell-index N before k, cell-index N asked k, cell-index N wished k)

  -- the grants that gave way to it
  pub renewed-all : (before after : List ℕ) → length asked ≡ N * N → Grants N p before → Renewed asked wished (take (N * N) before) after
      → after ≡ new_demand N asked wished p
  renewed-all before after size g r =
      let all : length after ≡ N * N = r.size ∙ length-take-le (N * N) before g.room in
      ext_get_or 0 after (new_demand N asked wished p) (all ∙ sym new-size)
      (λ k l. let in_all : k < N * N = omega (arith, all) in let q = place_in N k in_all in
      r.is k (omega (arith, size)) ∙ ap (λ (x : ℕ). (get_or asked k 0 - x) + get_or wished k 0) (get_or-take (N * N) before k 0 in_all)
      ∙ pair-at before k (g.is (k / N) (k % N) q.0 q.1) ∙ sym (new-at k in_all))

-- with the plan carried to its end, and covering, the new demand is the new wishes
pub carried-to-the-end : (N W : ℕ) (asked wished plan : List ℕ) → length wished ≡ N * N → Covers N (cell N asked) (plan_of W plan)
    → new_demand N asked wished (plan_from W plan 0 (whole W plan)) ≡ wished
carried-to-the-end N W asked wished plan = covered-rest N asked wished (plan_of W plan)

-- before the first record all that was asked is left
pub none-granted : (N : ℕ) (asked wished : List ℕ) (i j : ℕ) → i < N → j < N
    → cell N (new_demand N asked wished []) i j ≡ cell N asked i j + cell N wished i j
unfolding grant
none-granted N asked wished i j li lj = omega (arith, new-cell N asked wished [] i j li lj)

-- a cell is no more than its row
cell-small : (N : ℕ) (d : List ℕ) → longest N (cell N d) ≤ 65535 → (k : ℕ) → k < N * N → get_or d k 0 ≤ 65535
unfolding row
cell-small N d small k l =
    let q = place_in N k l in
    omega (arith, cell-index N d k, sum-at N (λ j. cell N d (k / N) j) (k % N) q.1, row-le-longest N (cell N d) (k / N) q.0, small)

module _ (N : ℕ) (asked wished : List ℕ) (a : length asked ≡ N * N) (w : length wished ≡ N * N) where
  pub renewing : longest N (cell N asked) ≤ 65535 → longest N (cell N wished) ≤ 65535 → (grants : List ℕ) → N * N ≤ length grants → Renewing asked wished grants
  renewing asked-small wished-small grants room = record {
    size = w ∙ sym a;
    room = omega (arith, a);
    small = λ k l. let inside : k < N * N = omega (arith, a) in
        omega (arith, cell-small N asked asked-small k inside, cell-small N wished wished-small k inside);
  }

-- ---- the pass over the cells: those below k are done

pub record Turned (asked wished before after : List ℕ) (k : ℕ) : Type 0 where
  pub size : length after ≡ length before
  pub done : (x : ℕ) → x < k → get_or after x 0 ≡ (get_or asked x 0 - get_or before x 0) + get_or wished x 0
  pub rest : (x : ℕ) → k ≤ x → get_or after x 0 ≡ get_or before x 0

module _ (asked wished before : List ℕ) where
  pub turned_none : Turned asked wished before before 0
  turned_none = record { size = refl; done = λ x l. absurd (omega arith); rest = λ x l. refl }

  pub turned-next : (after : List ℕ) (k : ℕ) → k < length before → Turned asked wished before after k
      → (v : ℕ) → v ≡ (get_or asked k 0 - get_or after k 0) + get_or wished k 0 → Turned asked wished before (set after k v) (k + 1)
  turned-next after k l t v e = record {
    size = length-set after k v ∙ t.size;
    done = λ x lx. dite (ℕ_discrete x k)
        (λ s. rw s (get_or-set_same after k v 0 (omega (arith, t.size)) ∙ e ∙ ap (λ (g : ℕ). (get_or asked k 0 - g) + get_or wished k 0) (t.rest k (omega arith))))
        (λ n. get_or-set_other after k x v 0 n ∙ t.done x (omega (arith, n)));
    rest = λ x lx. get_or-set_other after k x v 0 (λ s. omega (arith, s)) ∙ t.rest x (omega arith);
  }

  pub turned-all : (after : List ℕ) (k : ℕ) → length asked ≤ k → Turned asked wished before after k → Renewed asked wished before after
  turned-all after k l t = record { size = t.size; is = λ x lx. t.done x (omega arith) }
