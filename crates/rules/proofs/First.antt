-- At most one setting is first: two that are would each be no lower than the other at the first input where they differ.
use mathlib.Core.Path.{◌≡◌, sym}
use Prim.Native.Nat.{ℕ, zero, suc, ◌≤◌, ◌<◌}
use native.Mathlib.Decide.{ℕ_discrete, dec_lt}
use native.Mathlib.Omega.{arith}
use Rattle.rules.specs.First.{Fits, Agree, First}

-- the working form: where p agrees with o below k, it is not lower at k
pub not_lower : (N : ℕ) (E : ℕ → ℕ → Type 0) (o p : ℕ → ℕ) → First N E o → Fits N E p → (k : ℕ) → k < N → Agree k p o → o k ≤ p k
not_lower N E o p f g k l a = go (dec_lt (p k) (o k))
  where
    go : Dec (p k < o k) → o k ≤ p k
    go (yes h) = absurd (f.first p g (record { place = k; inside = l; agree = a; lower = h }))
    go (no h) = omega arith

pub first_of : (N : ℕ) (E : ℕ → ℕ → Type 0) (o : ℕ → ℕ) → Fits N E o
    → ((p : ℕ → ℕ) → Fits N E p → (k : ℕ) → k < N → Agree k p o → o k ≤ p k) → First N E o
first_of N E o f h = record {
  fits = f;
  first = λ p g b. let q : o b.place ≤ p b.place = h p g b.place b.inside b.agree in
      let r : p b.place < o b.place = b.lower in omega arith;
}

-- at most one is first
pub first-unique : (N : ℕ) (E : ℕ → ℕ → Type 0) (o p : ℕ → ℕ) → First N E o → First N E p → (k : ℕ) → k ≤ N → Agree k o p
first-unique N E o p f g zero h i l = absurd (omega arith)
first-unique N E o p f g (suc k) h i l = go (ℕ_discrete i k) (first-unique N E o p f g k (omega arith))
  where
    go : Dec (i ≡ k) → Agree k o p → o i ≡ p i
    go (no e) r = r i (omega arith)
    go (yes e) r = rw e (omega (arith, not_lower N E o p f g.fits k h (λ a q. sym (r a q)), not_lower N E p o g f.fits k h r))

-- the same pairs allow the same settings
pub fits-cong : (N : ℕ) (E E' : ℕ → ℕ → Type 0) → ((i j : ℕ) → i < N → j < N → E i j → E' i j) → (o : ℕ → ℕ) → Fits N E o → Fits N E' o
fits-cong N E E' h o f = record { full = f.full; used = λ i l. h i (o i) l (f.full.inside i l) (f.used i l) }

pub first_cong : (N : ℕ) (E E' : ℕ → ℕ → Type 0) → ((i j : ℕ) → i < N → j < N → E i j → E' i j) → ((i j : ℕ) → i < N → j < N → E' i j → E i j)
    → (o : ℕ → ℕ) → First N E o → First N E' o
first_cong N E E' h k o f = record { fits = fits-cong N E E' h o f.fits; first = λ p g. f.first p (fits-cong N E' E k p g) }
