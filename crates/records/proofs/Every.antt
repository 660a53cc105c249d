-- The laws of `all` and `any`: each is told by what holds at the single numbers, by induction on their number.
use mathlib.Core.Path.{◌≡◌, refl, sym}
use mathlib.Core.Bool.{Bool, true, false, ◌&&◌, ◌||◌, and-false}
use mathlib.Core.Logic.{⊎_elim}
use Prim.Native.Nat.{ℕ, zero, suc, ◌+◌, ◌<◌}
use native.Mathlib.Nat.{le_of_suc-le-suc, not-suc-le-zero, eq-or-lt_of_le}
use native.Mathlib.Numerals.{add-one}
use native.Mathlib.Omega.{arith}
use Rattle.records.specs.Record.{all, any}

pub and_l : (a b : Bool) → (a && b) ≡ true → a ≡ true
and_l true b e = refl
and_l false b e = e

pub and_r : (a b : Bool) → (a && b) ≡ true → b ≡ true
and_r true b e = e
and_r false b e = let z : true ≡ false = sym e in cc

pub all-intro : (n : ℕ) (p : ℕ → Bool) → ((k : ℕ) → k < n → p k ≡ true) → all n p ≡ true
unfolding all
all-intro zero p h = refl
all-intro (suc n) p h = rw (all-intro n p (λ k l. h k (omega arith)), h n (omega arith))

pub all-at : (n : ℕ) (p : ℕ → Bool) → all n p ≡ true → (k : ℕ) → k < n → p k ≡ true
unfolding all
all-at zero p e k l = absurd (not-suc-le-zero l)
all-at (suc n) p e k l =
    ⊎_elim (λ (s : k ≡ n). rw s (and_r (all n p) (p n) e)) (λ lt. all-at n p (and_l (all n p) (p n) e) k lt) (eq-or-lt_of_le (le_of_suc-le-suc l))

pub all-step : (n : ℕ) (p : ℕ → Bool) → all (n + 1) p ≡ (all n p && p n)
unfolding all
all-step n p = rw add-one

pub all_more : (n : ℕ) (p : ℕ → Bool) → all n p ≡ true → p n ≡ true → all (n + 1) p ≡ true
all_more n p a b = rw (all-step n p, a, b)

-- where p fails somewhere below n, not all hold
pub all-fails : (n : ℕ) (p : ℕ → Bool) (k : ℕ) → k < n → p k ≡ false → all n p ≡ false
unfolding all
all-fails zero p k l e = absurd (not-suc-le-zero l)
all-fails (suc n) p k l e =
    ⊎_elim (λ (s : k ≡ n). rw (← s, e, and-false)) (λ lt. rw (all-fails n p k lt e)) (eq-or-lt_of_le (le_of_suc-le-suc l))

pub any-more : (n : ℕ) (p : ℕ → Bool) → any (n + 1) p ≡ (any n p || p n)
unfolding any
any-more n p = rw add-one

pub any_none : (n : ℕ) (p : ℕ → Bool) → ((k : ℕ) → k < n → p k ≡ false) → any n p ≡ false
unfolding any
any_none zero p h = refl
any_none (suc n) p h = rw (any_none n p (λ k l. h k (omega arith)), h n (omega arith))

pub any_at : (n : ℕ) (p : ℕ → Bool) → any n p ≡ false → (k : ℕ) → k < n → p k ≡ false
unfolding any
any_at zero p e k l = absurd (not-suc-le-zero l)
any_at (suc n) p e k l =
    ⊎_elim (λ (s : k ≡ n). rw s (or_r (any n p) (p n) e)) (λ lt. any_at n p (or_l (any n p) (p n) e) k lt) (eq-or-lt_of_le (le_of_suc-le-suc l))
  where
    or_l : (a b : Bool) → (a || b) ≡ false → a ≡ false
    or_l true b e = e
    or_l false b e = refl

    or_r : (a b : Bool) → (a || b) ≡ false → b ≡ false
    or_r true b e = let z : true ≡ false = e in cc
    or_r false b e = e
