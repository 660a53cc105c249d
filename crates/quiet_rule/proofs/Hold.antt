-- The hold is the smallest cell among the joined pairs, so the record empties that cell: one non-zero cell less, which is why the records end.
use mathlib.Core.Path.{◌≡◌, refl, sym, ◌∙◌}
use mathlib.Core.Logic.{◌≢◌, ◌⊎◌, inl, inr}
use Prim.Native.Nat.{ℕ, zero, suc, ◌*◌, ◌≤◌, ◌<◌, min}
use native.Mathlib.Decide.{ℕ_discrete, dec_lt}
use native.Mathlib.Nat.{eq-zero-or-pos}
use native.Mathlib.Omega.{arith}
use lib.Dec.{ltb}
use borrow.Author.Tests.{lt-ltb, le-ltb}
use Rattle.counting.specs.Sum.{sum}
use Rattle.counting.specs.Count.{ind, count}
use Rattle.counting.specs.Matrix.{row}
use Rattle.counting.proofs.Sum.{sum_mono, sum-const, sum-at, sum-tight}
use Rattle.rules.specs.Peel.{peel}
use Rattle.rules.proofs.Ports.{count-le}
use Rattle.rules.proofs.Peel.{peel-at}
use Rattle.rules.proofs.Quick.{some_left}
use Rattle.quiet_rule.specs.Quiet.{lesser, smallest, joined_cell, pairs}

-- ---- the smallest that is not 0

pub lesser-at : (x y : ℕ) → (x ≡ 0 → lesser x y ≡ y) × (y ≡ 0 → lesser x y ≡ x) × (0 < x → 0 < y → lesser x y ≡ min x y)
unfolding lesser
lesser-at zero y = (λ _. refl, λ e. e, λ p. absurd (omega arith))
lesser-at (suc x) zero = (λ e. absurd (omega arith), λ _. refl, λ _ p. absurd (omega arith))
lesser-at (suc x) (suc y) = (λ e. absurd (omega arith), λ e. absurd (omega arith), λ _ _. refl)

-- it is one of the two
lesser-one : (x y : ℕ) → (lesser x y ≡ x) ⊎ (lesser x y ≡ y)
lesser-one x y = go (eq-zero-or-pos x) (eq-zero-or-pos y) (dec_lt x y)
  where
    go : (x ≡ 0) ⊎ (0 < x) → (y ≡ 0) ⊎ (0 < y) → Dec (x < y) → (lesser x y ≡ x) ⊎ (lesser x y ≡ y)
    go (inl e) d l = inr ((lesser-at x y).0 e)
    go (inr p) (inl e) l = inl ((lesser-at x y).1 e)
    go (inr p) (inr q) (yes l) = inl (omega (arith, (lesser-at x y).2 p q))
    go (inr p) (inr q) (no l) = inr (omega (arith, (lesser-at x y).2 p q))

-- it is at most what is not 0, and then not 0 itself
lesser-left : (x y : ℕ) → 0 < x → (0 < lesser x y) × (lesser x y ≤ x)
lesser-left x y p = go (eq-zero-or-pos y)
  where
    go : (y ≡ 0) ⊎ (0 < y) → (0 < lesser x y) × (lesser x y ≤ x)
    go (inl e) = (omega (arith, (lesser-at x y).1 e), omega (arith, (lesser-at x y).1 e))
    go (inr q) = (omega (arith, (lesser-at x y).2 p q), omega (arith, (lesser-at x y).2 p q))

lesser-right : (x y : ℕ) → 0 < y → (0 < lesser x y) × (lesser x y ≤ y)
lesser-right x y p = go (eq-zero-or-pos x)
  where
    go : (x ≡ 0) ⊎ (0 < x) → (0 < lesser x y) × (lesser x y ≤ y)
    go (inl e) = (omega (arith, (lesser-at x y).0 e), omega (arith, (lesser-at x y).0 e))
    go (inr q) = (omega (arith, (lesser-at x y).2 q p), omega (arith, (lesser-at x y).2 q p))

smallest-le : (n : ℕ) (f : ℕ → ℕ) (i : ℕ) → i < n → 0 < f i → (0 < smallest n f) × (smallest n f ≤ f i)
unfolding smallest
smallest-le zero f i l p = absurd (omega arith)
smallest-le (suc n) f i l p = go (ℕ_discrete i n) (λ k. smallest-le n f i k p)
  where
    go : Dec (i ≡ n) → (i < n → (0 < smallest n f) × (smallest n f ≤ f i)) → (0 < smallest (suc n) f) × (smallest (suc n) f ≤ f i)
    go (yes e) r = rw e (lesser-right (smallest n f) (f n) (rw e at p))
    go (no e) r =
        let s = r (omega arith) in
        let t = lesser-left (smallest n f) (f n) s.0 in
        (t.0, omega (arith, t.1, s.1))

smallest-met : (n : ℕ) (f : ℕ → ℕ) → 0 < smallest n f → (i : ℕ) × (i < n) × (f i ≡ smallest n f)
unfolding smallest
smallest-met zero f p = absurd (omega arith)
smallest-met (suc n) f p = go (lesser-one (smallest n f) (f n)) (smallest-met n f)
  where
    go : (lesser (smallest n f) (f n) ≡ smallest n f) ⊎ (lesser (smallest n f) (f n) ≡ f n) → (0 < smallest n f → (i : ℕ) × (i < n) × (f i ≡ smallest n f))
        → (i : ℕ) × (i < suc n) × (f i ≡ smallest (suc n) f)
    go (inl e) r = let s = r (omega arith) in (s.0, omega (arith, s.1), s.2 ∙ sym e)
    go (inr e) r = (n, omega arith, sym e)

-- where all are 0
pub smallest-none : (n : ℕ) (f : ℕ → ℕ) → ((i : ℕ) → i < n → f i ≡ 0) → smallest n f ≡ 0
unfolding smallest
smallest-none zero f h = refl
smallest-none (suc n) f h = (lesser-at (smallest n f) (f n)).0 (smallest-none n f (λ i l. h i (omega arith))) ∙ h n (omega arith)

-- ---- the hold

-- h is the smallest cell among the pairs that o joins
pub record Smallest (N : ℕ) (M : ℕ → ℕ → ℕ) (o : ℕ → ℕ) (h : ℕ) : Type 0 where
  pub up : 0 < h
  pub below : (i : ℕ) → i < N → o i < N → h ≤ M i (o i)
  pub place : ℕ
  pub inside : place < N
  pub joined : o place < N
  pub met : M place (o place) ≡ h

module _ (N : ℕ) (M : ℕ → ℕ → ℕ) (o : ℕ → ℕ) where
  pub joined-cell : (i : ℕ) → o i < N → joined_cell N M o i ≡ M i (o i)
  unfolding joined_cell
  joined-cell i l = rw (lt-ltb (o i) N l)

  pub idle-cell : (i : ℕ) → N ≤ o i → joined_cell N M o i ≡ 0
  unfolding joined_cell
  idle-cell i l = rw (le-ltb (o i) N l)

  module _ (used : (i : ℕ) → i < N → o i < N → 0 < M i (o i)) where
    below : (i : ℕ) → i < N → o i < N → (0 < smallest N (joined_cell N M o)) × (smallest N (joined_cell N M o) ≤ M i (o i))
    below i li lo =
        let r = smallest-le N (joined_cell N M o) i li (omega (arith, joined-cell i lo, used i li lo)) in
        (r.0, omega (arith, r.1, joined-cell i lo))

    -- where some input is joined
    pub hold-smallest : (a : ℕ) → a < N → o a < N → Smallest N M o (smallest N (joined_cell N M o))
    hold-smallest a la lo =
        let up : 0 < smallest N (joined_cell N M o) = (below a la lo).0 in
        let r : (i : ℕ) × (i < N) × (joined_cell N M o i ≡ smallest N (joined_cell N M o)) = smallest-met N (joined_cell N M o) up in
        go up r.0 r.1 r.2 (dec_lt (o r.0) N)
      where
        go : 0 < smallest N (joined_cell N M o) → (i : ℕ) → i < N → joined_cell N M o i ≡ smallest N (joined_cell N M o) → Dec (o i < N) → Smallest N M o (smallest N (joined_cell N M o))
        go up i li e (yes l) = record { up = up; below = λ k lk q. (below k lk q).1; place = i; inside = li; joined = l; met = sym (joined-cell i l) ∙ e }
        go up i li e (no l) = absurd (omega (arith, idle-cell i (omega arith)))

-- ---- the cells that are not zero

above : (x : ℕ) → ind (ltb 0 x) ≤ x
unfolding ind
above x = go (dec_lt 0 x)
  where
    go : Dec (0 < x) → ind (ltb 0 x) ≤ x
    go (yes p) = rw (lt-ltb 0 x p) p
    go (no p) = rw (le-ltb 0 x (omega arith)) (omega arith)

ind-mono : (x y : ℕ) → x ≤ y → ind (ltb 0 x) ≤ ind (ltb 0 y)
unfolding ind
ind-mono x y l = go (dec_lt 0 x)
  where
    go : Dec (0 < x) → ind (ltb 0 x) ≤ ind (ltb 0 y)
    go (yes p) = rw (lt-ltb 0 x p, lt-ltb 0 y (omega arith)) (omega arith)
    go (no p) = rw (le-ltb 0 x (omega arith)) (omega arith)

asked : (x : ℕ) → 0 < x → ind (ltb 0 x) ≡ 1
unfolding ind
asked x p = rw (lt-ltb 0 x p)

module _ (N : ℕ) (M : ℕ → ℕ → ℕ) where
  pub pairs-none : pairs N M ≡ 0 → (i j : ℕ) → i < N → j < N → M i j ≡ 0
  unfolding pairs count
  pairs-none e i j li lj = go (eq-zero-or-pos (M i j))
    where
      go : (M i j ≡ 0) ⊎ (0 < M i j) → M i j ≡ 0
      go (inl z) = z
      go (inr p) = absurd (omega (arith, asked (M i j) p, sum-at N (λ b. ind (ltb 0 (M i b))) j lj, sum-at N (λ a. sum N (λ b. ind (ltb 0 (M a b)))) i li))

  pub pairs-le : pairs N M ≤ N * N
  unfolding pairs
  pairs-le = omega (arith, sum_mono N (λ i. count N (λ j. ltb 0 (M i j))) (λ _. N) (λ i _. count-le N (λ j. ltb 0 (M i j))), sum-const N N)

  pub pairs-some : pairs N M ≢ 0 → (i : ℕ) × (i < N) × ((j : ℕ) × (j < N) × (0 < M i j))
  unfolding pairs count row
  pairs-some ne = some_left N M (λ e. ne (omega (
    arith,
    e,
    sum_mono N (λ i. sum N (λ j. ind (ltb 0 (M i j)))) (λ i. sum N (λ j. M i j)) (λ i _. sum_mono N (λ j. ind (ltb 0 (M i j))) (M i) (λ j _. above (M i j))),
  )))

  -- a record empties the cell that its hold is
  pub pairs-fewer : (o : ℕ → ℕ) (h : ℕ) → Smallest N M o h → pairs N (peel h o M) < pairs N M
  unfolding pairs count
  pairs-fewer o h s = go (dec_lt (sum N (λ i. sum N (now i))) (sum N (λ i. sum N (was i))))
    where
      was : ℕ → ℕ → ℕ
      was i j = ind (ltb 0 (M i j))

      now : ℕ → ℕ → ℕ
      now i j = ind (ltb 0 (peel h o M i j))

      less : (i j : ℕ) → now i j ≤ was i j
      less i j = ind-mono (peel h o M i j) (M i j) (unfold peel in omega arith)

      go : Dec (sum N (λ i. sum N (now i)) < sum N (λ i. sum N (was i))) → sum N (λ i. sum N (now i)) < sum N (λ i. sum N (was i))
      go (yes l) = l
      go (no l) =
          let a = s.place in
          let rows : sum N (now a) ≡ sum N (was a) = sum-tight N (λ i. sum N (now i)) (λ i. sum N (was i)) (λ i _. sum_mono N (now i) (was i) (λ j _. less i j)) (omega arith) a s.inside in
          let cells : now a (o a) ≡ was a (o a) = sum-tight N (now a) (was a) (λ j _. less a j) (omega arith) (o a) s.joined in
          absurd (omega (arith, cells, asked (M a (o a)) (omega (arith, s.met, s.up)), above (peel h o M a (o a)), peel-at h o M a, s.met))
