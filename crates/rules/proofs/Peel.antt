-- Subtracting the hold from the pairs of a full setting lowers every line by the hold, since a full setting joins one pair of each line.
use mathlib.Core.Path.{◌≡◌, refl, sym, ap, ◌∙◌}
use mathlib.Core.Logic.{◌≢◌}
use mathlib.Core.Bool.{cond}
use mathlib.Core.List.{List}
use Prim.Native.Nat.{ℕ, zero, suc, ◌+◌, ◌*◌, ◌-◌, ◌≤◌, ◌<◌}
use native.Mathlib.Decide.{ℕ_discrete, dec_lt}
use native.Mathlib.Numerals.{add-one}
use native.Mathlib.Omega.{arith}
use lib.ListN.{length, set, length-set}
use lib.Seq.{get_or-set_same, get_or-set_other}
use lib.Dec.{ltb}
use borrow.Author.Tests.{lt-ltb, le-ltb}
use lib.Arith.{digits_lt}
use Rattle.counting.specs.Sum.{sum}
use Rattle.counting.specs.Count.{δ}
use Rattle.counting.specs.Matrix.{row, col}
use Rattle.counting.proofs.Sum.{sum-cong, sum-add, sum-mul}
use Rattle.counting.proofs.Count.{δ-same, δ-other}
use Rattle.switch.specs.Demand.{cell}
use Rattle.switch.specs.Plan.{Full}
use Rattle.switch.proofs.Demand.{index-inj}
use Rattle.switch.proofs.Plan.{full-row, full-col}
use Rattle.rules.specs.Peel.{peel, peel_to}

pub peel-at : (h : ℕ) (o : ℕ → ℕ) (M : ℕ → ℕ → ℕ) (i : ℕ) → peel h o M i (o i) ≡ M i (o i) - h
unfolding peel
peel-at h o M i = ap (λ x. M i (o i) - x) (omega (arith, ap (λ x. h * x) (δ-same (o i))))

pub peel-off : (h : ℕ) (o : ℕ → ℕ) (M : ℕ → ℕ → ℕ) (i j : ℕ) → (o i ≡ j → ⊥) → peel h o M i j ≡ M i j
unfolding peel
peel-off h o M i j e = omega (arith, ap (λ x. h * x) (δ-other (o i) j e))

module _ (N h : ℕ) (o : ℕ → ℕ) (M : ℕ → ℕ → ℕ) (least : (i : ℕ) → i < N → o i < N → h ≤ M i (o i)) where
  pub peel-back : (i j : ℕ) → i < N → j < N → peel h o M i j + h * δ (o i) j ≡ M i j
  unfolding peel
  peel-back i j li lj = go (ℕ_discrete (o i) j)
    where
      go : Dec (o i ≡ j) → (M i j - h * δ (o i) j) + h * δ (o i) j ≡ M i j
      go (yes e) = rw (← e, δ-same) (omega (arith, least i li (rw e lj)))
      go (no e) = rw (δ-other (o i) j e) (omega arith)

  -- a line loses the hold for each of its pairs that is joined
  pub peel_row : (i : ℕ) → i < N → row N (peel h o M) i + h * sum N (λ j. δ (o i) j) ≡ row N M i
  unfolding row
  peel_row i l = omega (
    arith,
    sum-cong N (λ j. peel h o M i j + h * δ (o i) j) (M i) (λ j k. peel-back i j l k),
    sum-add N (peel h o M i) (λ j. h * δ (o i) j),
    sum-mul N h (λ j. δ (o i) j),
  )

  pub peel-col : (j : ℕ) → j < N → col N (peel h o M) j + h * sum N (λ i. δ (o i) j) ≡ col N M j
  unfolding col
  peel-col j k = omega (
    arith,
    sum-cong N (λ i. peel h o M i j + h * δ (o i) j) (λ i. M i j) (λ i l. peel-back i j l k),
    sum-add N (λ i. peel h o M i j) (λ i. h * δ (o i) j),
    sum-mul N h (λ i. δ (o i) j),
  )

  -- which is one of them where the setting is full
  pub peel-full-row : Full N o → (i : ℕ) → i < N → row N (peel h o M) i + h ≡ row N M i
  peel-full-row f i l = omega (arith, peel_row i l, ap (λ x. h * x) (full-row N o f i l))

  pub peel-full-col : Full N o → (j : ℕ) → j < N → col N (peel h o M) j + h ≡ col N M j
  peel-full-col f j k = omega (arith, peel-col j k, ap (λ x. h * x) (full-col N o f j k))

-- ---- on a list of cells

pub length-peel_to : (N h : ℕ) (o : ℕ → ℕ) (d : List ℕ) (k : ℕ) → length (peel_to N h o d k) ≡ length d
unfolding peel_to
length-peel_to N h o d zero = refl
length-peel_to N h o d (suc k) = go (dec_lt (o k) N) (length-peel_to N h o d k)
  where
    e : List ℕ
    e = peel_to N h o d k

    go : Dec (o k < N) → length e ≡ length d → length (cond (ltb (o k) N) (set e (k * N + o k) (cell N e k (o k) - h)) e) ≡ length d
    go (yes l) r = rw (lt-ltb (o k) N l) (length-set e _ _ ∙ r)
    go (no l) r = rw (le-ltb (o k) N (omega arith)) r

module _ (N h : ℕ) (o : ℕ → ℕ) (d : List ℕ) where
  pub peel_to-zero : d ≡ peel_to N h o d 0
  unfolding peel_to
  peel_to-zero = refl

  -- input k is joined, and gives up h; or it is idle
  pub peel_to-joined : (k : ℕ) → o k < N → set (peel_to N h o d k) (k * N + o k) (cell N (peel_to N h o d k) k (o k) - h) ≡ peel_to N h o d (k + 1)
  unfolding peel_to
  peel_to-joined k l = rw (add-one k, lt-ltb (o k) N l)

  pub peel_to-idle : (k : ℕ) → N ≤ o k → peel_to N h o d k ≡ peel_to N h o d (k + 1)
  unfolding peel_to
  peel_to-idle k l = rw (add-one k, le-ltb (o k) N l)

  module _ (s : N * N ≤ length d) where
    -- its row is peeled, and no other
    peel_to-row : (k : ℕ) → k < N → (j : ℕ) → j < N → cell N (peel_to N h o d (k + 1)) k j ≡ peel h o (cell N (peel_to N h o d k)) k j
    peel_to-row k lk j lj = go (dec_lt (o k) N) (ℕ_discrete j (o k))
      where
        e : List ℕ
        e = peel_to N h o d k

        go : Dec (o k < N) → Dec (j ≡ o k) → cell N (peel_to N h o d (k + 1)) k j ≡ peel h o (cell N e) k j
        go (no l) y = rw (← peel_to-idle k (omega arith)) (sym (peel-off h o (cell N e) k j (omega arith)))
        go (yes l) (yes y) = rw (← peel_to-joined k l, y) (unfold cell in
            get_or-set_same e (k * N + o k) (cell N e k (o k) - h) 0 (omega (arith, length-peel_to N h o d k, s, digits_lt {q = k} {m = N} {r = o k} {c = N} lk l)) ∙ sym (peel-at h o (cell N e) k))
        go (yes l) (no y) = rw (← peel_to-joined k l) (unfold cell in
            get_or-set_other e (k * N + o k) (k * N + j) (cell N e k (o k) - h) 0 (λ q. y (index-inj N k j k (o k) lj l q).1) ∙ sym (peel-off h o (cell N e) k j (λ q. y (sym q))))

    peel_to-other : (k i j : ℕ) → i ≢ k → j < N → cell N (peel_to N h o d (k + 1)) i j ≡ cell N (peel_to N h o d k) i j
    peel_to-other k i j x lj = go (dec_lt (o k) N)
      where
        e : List ℕ
        e = peel_to N h o d k

        go : Dec (o k < N) → cell N (peel_to N h o d (k + 1)) i j ≡ cell N e i j
        go (no l) = rw (← peel_to-idle k (omega arith))
        go (yes l) = rw (← peel_to-joined k l) (unfold cell in get_or-set_other e (k * N + o k) (i * N + j) (cell N e k (o k) - h) 0 (λ q. x (index-inj N i j k (o k) lj l q).0))

    -- not yet reached
    pub peel_to-after : (k i j : ℕ) → k ≤ i → j < N → cell N (peel_to N h o d k) i j ≡ cell N d i j
    peel_to-after zero i j q lj = unfold peel_to in refl
    peel_to-after (suc k) i j q lj = rw (← add-one k) (peel_to-other k i j (omega arith) lj ∙ peel_to-after k i j (omega arith) lj)

    -- the cells afterwards are those of peel
    pub peel_to-done : (k : ℕ) → k ≤ N → (i j : ℕ) → i < k → j < N → cell N (peel_to N h o d k) i j ≡ peel h o (cell N d) i j
    peel_to-done zero l i j q lj = absurd (omega arith)
    peel_to-done (suc k) l i j q lj = rw (← add-one k) (go (ℕ_discrete i k) (λ r. peel_to-done k (omega arith) i j r lj))
      where
        go : Dec (i ≡ k) → (i < k → cell N (peel_to N h o d k) i j ≡ peel h o (cell N d) i j) → cell N (peel_to N h o d (k + 1)) i j ≡ peel h o (cell N d) i j
        go (yes x) r = rw x (peel_to-row k l j lj ∙ (unfold peel in ap (λ z. z - h * δ (o k) j) (peel_to-after k k j (omega arith) lj)))
        go (no x) r = peel_to-other k i j x lj ∙ r (omega arith)
