-- A plan covers a demand just where the scan for a cell that is granted less than asked finds none.
use Rattle.std.specs.Prelude.{Err, Ok}
use mathlib.Core.Path.{◌≡◌, refl, ap}
use mathlib.Core.List.{List}
use mathlib.Core.Bool.{Bool, true, false, cond}
use lib.Dec.{ltb}
use Prim.Native.Nat.{ℕ, zero, suc, ◌+◌, ◌*◌, ◌-◌, ◌/◌, ◌%◌, ◌<◌, ◌≤◌}
use native.Mathlib.Decide.{dec_lt}
use native.Mathlib.Omega.{arith}
use lib.ListN.{length}
use lib.Arith.{digits_div, digits_mod, digits_lt}
use borrow.Author.Tests.{lt-ltb, le-ltb}
use Rattle.counting.specs.Matrix.{row}
use Rattle.counting.proofs.Sum.{sum-cong}
use Rattle.counting.proofs.Matrix.{row-cong}
use Rattle.switch.specs.Outcome.{Outcome}
use Rattle.switch.specs.declared.Refusal.TheVariants.{Uncovered}
use Rattle.switch.specs.Answer.{demand_counts}
use Rattle.switch.specs.Demand.{cell}
use Rattle.switch.specs.Plan.{Record, grant, total}
use Rattle.switch.specs.Empty.{beyond, empty_slots}
use Rattle.switch.proofs.Demand.{place_in}
use Rattle.demand.specs.Lines.{over}
use Rattle.demand.proofs.Lines.{over_first}
use Rattle.std.specs.declared.result.Result.{Result}
use Rattle.checker.specs.Check.{missing, uncovered, Short, meeting, covering}

-- ---- the scan

module _ (N : ℕ) (M G : ℕ → ℕ → ℕ) where
  pub missing-some : (k : ℕ) → G (k / N) (k % N) < M (k / N) (k % N) → 0 < missing N M G k
  unfolding missing
  missing-some k l = omega arith

  pub missing-none : (k : ℕ) → M (k / N) (k % N) ≤ G (k / N) (k % N) → missing N M G k ≤ 0
  unfolding missing
  missing-none k l = omega arith

-- what is over a limit depends on the numbers scanned alone
over-cong : (c : ℕ) (f g : ℕ → ℕ) (m k : ℕ) → ((i : ℕ) → k ≤ i → i < k + m → f i ≡ g i) → over c f m k ≡ over c g m k
unfolding over
over-cong c f g zero k e = refl
over-cong c f g (suc m) k e = rw (e k (omega arith) (omega arith), over-cong c f g m (suc k) (λ i a b. e i (omega arith) (omega arith)))

uncovered-cong : (N : ℕ) (M G H : ℕ → ℕ → ℕ) → ((i j : ℕ) → i < N → j < N → G i j ≡ H i j) → uncovered N M G ≡ uncovered N M H
unfolding uncovered missing
uncovered-cong N M G H e =
    over-cong 0 (missing N M G) (missing N M H) (N * N) 0
    (λ k _ l. let q = place_in N k (omega arith) in ap (λ (x : ℕ). M (k / N) (k % N) - x) (e (k / N) (k % N) q.0 q.1))

-- ---- how grants meet a demand

module _ (N : ℕ) (M G : ℕ → ℕ → ℕ) where
  pub meeting-misses : (k : ℕ) → uncovered N M G ≡ k → k < N * N → Err k ≡ meeting N M G
  unfolding meeting
  meeting-misses k e l = rw (e, lt-ltb _ _ l)

  pub meeting-meets : N * N ≤ uncovered N M G → (x : ℕ) → x ≡ beyond N M G → Ok x ≡ meeting N M G
  unfolding meeting
  meeting-meets l x e = rw (e, le-ltb _ _ l)

pub meeting-cong : (N : ℕ) (M G H : ℕ → ℕ → ℕ) → ((i j : ℕ) → i < N → j < N → G i j ≡ H i j) → meeting N M G ≡ meeting N M H
unfolding meeting
meeting-cong N M G H e = λ i. cond (ltb (uncovered-cong N M G H e i) (N * N)) (Err (uncovered-cong N M G H e i)) (Ok (more i))
  where
    more : beyond N M G ≡ beyond N M H
    more = unfold beyond in
        sum-cong N (row N (λ i j. G i j - M i j)) (row N (λ i j. H i j - M i j))
        (row-cong N (λ i j. G i j - M i j) (λ i j. H i j - M i j) (λ i j li lj. ap (λ (x : ℕ). x - M i j) (e i j li lj)))

-- ---- what the scan finds

over-found : (c : ℕ) (f : ℕ → ℕ) (m k : ℕ) → over c f m k < k + m → (k ≤ over c f m k) × (c < f (over c f m k))
unfolding over
over-found c f zero k l = absurd (omega arith)
over-found c f (suc m) k l = go (dec_lt c (f k)) (over-found c f m (suc k)) l
  where
    go : Dec (c < f k) → (over c f m (suc k) < suc k + m → (suc k ≤ over c f m (suc k)) × (c < f (over c f m (suc k))))
        → cond (ltb c (f k)) k (over c f m (suc k)) < k + suc m → (k ≤ cond (ltb c (f k)) k (over c f m (suc k))) × (c < f (cond (ltb c (f k)) k (over c f m (suc k))))
    go (yes p) r h = rw (lt-ltb _ _ p) (omega arith, p)
    go (no p) r h =
        let e : ltb c (f k) ≡ false = le-ltb c (f k) (omega (arith, p)) in
        let q = r (omega (arith, rw e at h)) in
        rw e (omega (arith, q.0), q.1)

module _ (N : ℕ) (M G : ℕ → ℕ → ℕ) where
  -- it stops at the first cell that is granted less than asked
  pub uncovered-short : uncovered N M G < N * N → Short N M G (uncovered N M G)
  unfolding uncovered missing
  uncovered-short l =
      let found = over-found 0 (missing N M G) (N * N) 0 (omega arith) in
      let first = over_first 0 (missing N M G) (N * N) 0 (over 0 (missing N M G) (N * N) 0) found.0 (omega arith) found.1 in
      record { inside = l; here = omega (arith, found.1); before = λ j h. omega (arith, first.before j (omega arith) h) }

  -- and where it finds none, every pair is granted what it asks
  pub uncovered-none : N * N ≤ uncovered N M G → (i j : ℕ) → i < N → j < N → M i j ≤ G i j
  unfolding uncovered missing
  uncovered-none e i j li lj = go (dec_lt (G i j) (M i j))
    where
      at : 0 < M i j - G i j → 0 < missing N M G (i * N + j)
      at p = rw (digits_div i lj, digits_mod i lj) p

      go : Dec (G i j < M i j) → M i j ≤ G i j
      go (yes p) = absurd (omega (arith, e, (over_first 0 (missing N M G) (N * N) 0 (i * N + j) (omega arith) (omega (arith, digits_lt li lj)) (at (omega arith))).inside))
      go (no p) = omega (arith, p)

  pub covered-end : ((i j : ℕ) → i < N → j < N → M i j ≤ G i j) → N * N ≤ uncovered N M G
  covered-end h = go (dec_lt (uncovered N M G) (N * N))
    where
      go : Dec (uncovered N M G < N * N) → N * N ≤ uncovered N M G
      go (yes l) = let s = uncovered-short l in let q = place_in N (uncovered N M G) l in absurd (omega (arith, s.here, h (uncovered N M G / N) (uncovered N M G % N) q.0 q.1))
      go (no l) = omega (arith, l)

-- ---- code 13 or none

-- the answer for a plan of r records and total t
abbrev pub answers : ℕ → ℕ → ℕ → (Result ℕ ℕ) → Outcome
answers r T t (Err k) = Err (Uncovered k)
answers r T t (Ok x) = Ok (demand_counts r T t x)

pub covering-meeting : (T N : ℕ) (d : List ℕ) (p : List Record) → answers (length p) T (total p) (meeting N (cell N d) (grant p)) ≡ covering T N d p
unfolding covering meeting empty_slots
covering-meeting T N d p = by (ltb (uncovered N (cell N d) (grant p)) (N * N))
  where
    by : (b : Bool) → answers (length p) T (total p) (cond b (Err (uncovered N (cell N d) (grant p))) (Ok (beyond N (cell N d) (grant p))))
        ≡ cond b (Err (Uncovered (uncovered N (cell N d) (grant p)))) (Ok (demand_counts (length p) T (total p) (beyond N (cell N d) (grant p))))
    by true = refl
    by false = refl

module _ (T N : ℕ) (d : List ℕ) (p : List Record) (k : ℕ) (is : k ≡ uncovered N (cell N d) (grant p)) where
  pub covering-short : k < N * N → Err (Uncovered k) ≡ covering T N d p
  unfolding covering
  covering-short l = rw (← is, lt-ltb _ _ l)

  pub covering-done : N * N ≤ k → Ok (demand_counts (length p) T (total p) (empty_slots N (cell N d) p)) ≡ covering T N d p
  unfolding covering
  covering-done l = rw (← is, le-ltb _ _ l)
