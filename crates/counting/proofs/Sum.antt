-- The laws of finite sums, each by induction on the number of terms, as a loop runs.
use mathlib.Core.Path.{◌≡◌, refl, sym, ap₂}
use mathlib.Core.Logic.{◌≢◌, ◌⊎◌, inl, inr}
use Prim.Native.Nat.{ℕ, zero, suc, ◌+◌, ◌*◌, ◌≤◌, ◌<◌}
use native.Mathlib.Nat.{mul-zero, zero-mul, suc-mul, add-suc, add-zero, eq-zero-or-pos}
use native.Mathlib.Decide.{ℕ_discrete}
use native.Mathlib.Omega.{arith}
use native.Mathlib.Numerals.{add-one}
use Rattle.counting.specs.Sum.{sum}

pub sum-zero : (f : ℕ → ℕ) → sum 0 f ≡ 0
unfolding sum
sum-zero f = refl

-- the code's j + 1
pub sum-next : (n : ℕ) (f : ℕ → ℕ) → sum (n + 1) f ≡ sum n f + f n
unfolding sum
sum-next n f = rw (add-one n)

pub sum-cong : (n : ℕ) (f g : ℕ → ℕ) → ((i : ℕ) → i < n → f i ≡ g i) → sum n f ≡ sum n g
unfolding sum
sum-cong zero f g h = refl
sum-cong (suc n) f g h = ap₂ ◌+◌ (sum-cong n f g (λ i k. h i (omega arith))) (h n (omega arith))

pub sum_mono : (n : ℕ) (f g : ℕ → ℕ) → ((i : ℕ) → i < n → f i ≤ g i) → sum n f ≤ sum n g
unfolding sum
sum_mono zero f g h = omega arith
sum_mono (suc n) f g h = omega (arith, sum_mono n f g (λ i k. h i (omega arith)), h n (omega arith))

pub sum-add : (n : ℕ) (f g : ℕ → ℕ) → sum n (λ i. f i + g i) ≡ sum n f + sum n g
unfolding sum
sum-add zero f g = refl
sum-add (suc n) f g = omega (arith, sum-add n f g)

pub sum-const : (n c : ℕ) → sum n (λ _. c) ≡ n * c
unfolding sum
sum-const zero c = omega arith
sum-const (suc n) c = omega (arith, sum-const n c)

pub sum-mul : (n c : ℕ) (f : ℕ → ℕ) → sum n (λ i. c * f i) ≡ c * sum n f
unfolding sum
sum-mul zero c f = sym (mul-zero c)
sum-mul (suc n) c f = omega (arith, sum-mul n c f)

pub sum-swap : (n m : ℕ) (f : ℕ → ℕ → ℕ) → sum n (λ i. sum m (λ j. f i j)) ≡ sum m (λ j. sum n (λ i. f i j))
unfolding sum
sum-swap zero m f = omega (arith, sum-const m 0)
sum-swap (suc n) m f = omega (arith, sum-swap n m f, sum-add m (λ j. sum n (λ i. f i j)) (λ j. f n j))

pub sum-split : (n m : ℕ) (f : ℕ → ℕ) → sum (n + m) f ≡ sum n f + sum m (λ i. f (n + i))
unfolding sum
sum-split n zero f = rw (add-zero n) (omega arith)
sum-split n (suc m) f = rw (add-suc n m) (omega (arith, sum-split n m f))

-- a change at the one index i
pub sum-change : (n : ℕ) (f g : ℕ → ℕ) (i : ℕ) → i < n → ((j : ℕ) → j < n → j ≢ i → f j ≡ g j) → sum n f + g i ≡ sum n g + f i
unfolding sum
sum-change zero f g i l h = omega arith
sum-change (suc n) f g i l h =
    go (ℕ_discrete n i) (λ k. sum-change n f g i k (λ j p. h j (omega arith)))
  where
    go : Dec (n ≡ i) → (i < n → sum n f + g i ≡ sum n g + f i) → sum (suc n) f + g i ≡ sum (suc n) g + f i
    go (yes e) r = rw (← e) (omega (arith, sum-cong n f g (λ j p. h j (omega arith) (omega arith))))
    go (no e) r = omega (arith, r (omega arith), h n (omega arith) e)

-- one term is at most the sum
pub sum-at : (n : ℕ) (f : ℕ → ℕ) (i : ℕ) → i < n → f i ≤ sum n f
unfolding sum
sum-at zero f i l = omega arith
sum-at (suc n) f i l = go (ℕ_discrete n i) (λ k. sum-at n f i k)
  where
    go : Dec (n ≡ i) → (i < n → f i ≤ sum n f) → f i ≤ sum (suc n) f
    go (yes e) r = rw (← e) (omega arith)
    go (no e) r = omega (arith, r (omega arith))

-- all terms 0
pub sum-none : (n : ℕ) (f : ℕ → ℕ) → ((i : ℕ) → i < n → f i ≡ 0) → sum n f ≡ 0
sum-none n f h = omega (arith, sum-cong n f (λ _. 0) h, sum-const n 0)

-- all terms but the one at i are 0
pub sum-single : (n : ℕ) (f : ℕ → ℕ) (i : ℕ) → i < n → ((j : ℕ) → j < n → j ≢ i → f j ≡ 0) → sum n f ≡ f i
sum-single n f i l h = omega (arith, sum-change n f (λ _. 0) i l h, sum-const n 0)

-- term by term at most, and the sums equal: equal term by term
pub sum-tight : (n : ℕ) (f g : ℕ → ℕ) → ((i : ℕ) → i < n → f i ≤ g i) → sum n g ≤ sum n f → (i : ℕ) → i < n → f i ≡ g i
unfolding sum
sum-tight zero f g h e i l = omega arith
sum-tight (suc n) f g h e i l =
    go (ℕ_discrete n i) (λ k. sum-tight n f g (λ j p. h j (omega arith)) (omega (arith, h n (omega arith))) i k)
  where
    go : Dec (n ≡ i) → (i < n → f i ≡ g i) → f i ≡ g i
    go (yes q) r = rw (← q) (omega (arith, h n (omega arith), sum_mono n f g (λ j p. h j (omega arith))))
    go (no q) r = r (omega arith)

-- terms of which at most one is not 0, each at most c
pub sum-most : (n c : ℕ) (f : ℕ → ℕ) → ((i : ℕ) → i < n → f i ≤ c)
    → ((i j : ℕ) → i < n → j < n → 0 < f i → 0 < f j → i ≡ j) → sum n f ≤ c
unfolding sum
sum-most zero c f h u = omega arith
sum-most (suc n) c f h u = go (eq-zero-or-pos (f n)) (sum-most n c f (λ i l. h i (omega arith)) (λ i j p q. u i j (omega arith) (omega arith)))
  where
    none : 0 < f n → (i : ℕ) → i < n → f i ≡ 0
    none p i l = at (eq-zero-or-pos (f i))
      where
        at : (f i ≡ 0) ⊎ (0 < f i) → f i ≡ 0
        at (inl e) = e
        at (inr q) = omega (arith, u i n (omega arith) (omega arith) q p)

    go : (f n ≡ 0) ⊎ (0 < f n) → sum n f ≤ c → sum (suc n) f ≤ c
    go (inl e) r = omega arith
    go (inr p) r = omega (arith, sum-none n f (none p), h n (omega arith))

-- n × m terms, m at a time
pub sum_rows : (n m : ℕ) (f : ℕ → ℕ) → sum (n * m) f ≡ sum n (λ i. sum m (λ j. f (i * m + j)))
unfolding sum
sum_rows zero m f = rw (zero-mul m)
sum_rows (suc n) m f = rw (suc-mul n m) (omega (arith, sum-split (n * m) m f, sum_rows n m f))
