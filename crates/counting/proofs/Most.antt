-- The laws of the largest of n numbers, each by induction on n: it is one of them or 0, and none is above it.
use mathlib.Core.Path.{◌≡◌, refl}
use Prim.Native.Nat.{ℕ, zero, suc, ◌+◌, ◌≤◌, ◌<◌, max}
use native.Mathlib.Nat.{add-zero, add-suc}
use native.Mathlib.Numerals.{add-one}
use native.Mathlib.Decide.{ℕ_discrete, dec_lt}
use native.Mathlib.Omega.{arith}
use Rattle.counting.specs.Sum.{most}

pub most-zero : (f : ℕ → ℕ) → most 0 f ≡ 0
unfolding most
most-zero f = refl

pub most-next : (n : ℕ) (f : ℕ → ℕ) → most (n + 1) f ≡ max (most n f) (f n)
unfolding most
most-next n f = rw (add-one n)

pub most-at : (n : ℕ) (f : ℕ → ℕ) (i : ℕ) → i < n → f i ≤ most n f
unfolding most
most-at zero f i l = omega arith
most-at (suc n) f i l = go (ℕ_discrete n i) (λ k. most-at n f i k)
  where
    go : Dec (n ≡ i) → (i < n → f i ≤ most n f) → f i ≤ most (suc n) f
    go (yes e) r = rw (← e) (omega arith)
    go (no e) r = omega (arith, r (omega arith))

pub most-le : (n c : ℕ) (f : ℕ → ℕ) → ((i : ℕ) → i < n → f i ≤ c) → most n f ≤ c
unfolding most
most-le zero c f h = omega arith
most-le (suc n) c f h = omega (arith, most-le n c f (λ i l. h i (omega arith)), h n (omega arith))

pub most-cong : (n : ℕ) (f g : ℕ → ℕ) → ((i : ℕ) → i < n → f i ≡ g i) → most n f ≡ most n g
unfolding most
most-cong zero f g h = refl
most-cong (suc n) f g h = omega (arith, most-cong n f g (λ i l. h i (omega arith)), h n (omega arith))

-- where it is not 0, it is one of them
pub most-one : (n : ℕ) (f : ℕ → ℕ) → 0 < most n f → (i : ℕ) × (i < n) × (f i ≡ most n f)
unfolding most
most-one zero f p = absurd (omega arith)
most-one (suc n) f p = go (dec_lt (most n f) (f n)) (most-one n f)
  where
    go : Dec (most n f < f n) → (0 < most n f → (i : ℕ) × (i < n) × (f i ≡ most n f)) → (i : ℕ) × (i < suc n) × (f i ≡ most (suc n) f)
    go (yes l) r = (n, omega arith, omega arith)
    go (no l) r = let e = r (omega (arith, l)) in (e.0, omega (arith, e.1), omega (arith, e.2, l))

-- the largest of n + m numbers is the larger of the two parts' largest
pub most-split : (n m : ℕ) (f : ℕ → ℕ) → most (n + m) f ≡ max (most n f) (most m (λ i. f (n + i)))
unfolding most
most-split n zero f = rw (add-zero n) (omega arith)
most-split n (suc m) f = rw (add-suc n m) (omega (arith, most-split n m f))
