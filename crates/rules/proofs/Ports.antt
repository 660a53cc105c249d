-- A function changed at one port differs there alone, so what held of all its ports is to be shown anew at that one only.
use mathlib.Core.Path.{◌≡◌, refl, sym, ap, ◌∙◌, subst}
use mathlib.Core.Logic.{◌≢◌}
use mathlib.Core.Bool.{Bool, true, false}
use Prim.Native.Nat.{ℕ, zero, suc, ◌≤◌, ◌<◌}
use native.Mathlib.Decide.{ℕ_discrete}
use native.Mathlib.Omega.{arith}
use lib.Dec.{T}
use borrow.Author.Tests.{eq-eqb, ne_eqb}
use Rattle.counting.specs.Count.{ind, count}
use Rattle.counting.proofs.Sum.{sum-change, sum_mono, sum-const}
use Rattle.counting.proofs.Count.{ind-true, ind-false, ind-le}
use Rattle.switch.specs.Plan.{Setting}
use Rattle.rules.specs.Search.{put}

pub put_same {ℓ} : {A : Type ℓ} (m : ℕ → A) (i : ℕ) (v : A) → put m i v i ≡ v
unfolding put
put_same m i v = rw (eq-eqb i i refl)

pub put_other {ℓ} : {A : Type ℓ} (m : ℕ → A) (i : ℕ) (v : A) (k : ℕ) → k ≢ i → put m i v k ≡ m k
unfolding put
put_other m i v k h = rw (ne_eqb k i h)

-- a setting stays one where input a takes an output v that no other input has, or is made idle
pub put-setting : (N : ℕ) (m : ℕ → ℕ) → Setting N m → (a v : ℕ) → (v < N → (k : ℕ) → k < N → k ≢ a → m k ≢ v) → Setting N (put m a v)
put-setting N m s a v free = record { once = once }
  where
    once : (i k : ℕ) → i < N → k < N → put m a v i < N → put m a v i ≡ put m a v k → i ≡ k
    once i k li lk q e = go (ℕ_discrete i a) (ℕ_discrete k a)
      where
        go : Dec (i ≡ a) → Dec (k ≡ a) → i ≡ k
        go (yes x) (yes y) = x ∙ sym y
        go (yes x) (no y) =
            let w : put m a v i ≡ v = ap (put m a v) x ∙ put_same m a v in
            absurd (free (rw w at q) k lk y (sym (put_other m a v k y) ∙ sym e ∙ w))
        go (no x) (yes y) =
            let w : put m a v k ≡ v = ap (put m a v) y ∙ put_same m a v in
            absurd (free (subst (λ (z : ℕ). z < N) (e ∙ w) q) i li x (sym (put_other m a v i x) ∙ e ∙ w))
        go (no x) (no y) = s.once i k li lk (rw (put_other m a v i x) at q) (sym (put_other m a v i x) ∙ e ∙ put_other m a v k y)

-- and it uses only cells that are not 0, if it did and v's is not
pub put-used : (N : ℕ) (M : ℕ → ℕ → ℕ) (m : ℕ → ℕ) → ((i : ℕ) → i < N → m i < N → 0 < M i (m i)) → (a v : ℕ) → (v < N → 0 < M a v)
    → (i : ℕ) → i < N → put m a v i < N → 0 < M i (put m a v i)
put-used N M m used a v cell i li q = go (ℕ_discrete i a)
  where
    go : Dec (i ≡ a) → 0 < M i (put m a v i)
    go (yes x) = rw (x, put_same m a v) (cell (rw (x, put_same m a v) at q))
    go (no x) = rw (put_other m a v i x) (used i li (rw (put_other m a v i x) at q))

-- a set with one member more keeps the others
pub put-widens : (B : ℕ → Bool) (c j : ℕ) → T (B j) → T (put B c true j)
put-widens B c j t = go (ℕ_discrete j c)
  where
    go : Dec (j ≡ c) → T (put B c true j)
    go (yes e) = rw (e, put_same B c true) tt
    go (no e) = rw (put_other B c true j e) t

pub count-put : (n : ℕ) (B : ℕ → Bool) (c : ℕ) → c < n → (T (B c) → ⊥) → count n (put B c true) ≡ suc (count n B)
unfolding count
count-put n B c l h =
    omega (
      arith,
      sum-change n (λ j. ind (put B c true j)) (λ j. ind (B j)) c l (λ j q ne. ap ind (put_other B c true j ne)),
      ind-true (put B c true c) (rw (put_same B c true) tt),
      ind-false (B c) h,
    )

pub count-le : (n : ℕ) (B : ℕ → Bool) → count n B ≤ n
unfolding count
count-le n B = omega (arith, sum_mono n (λ j. ind (B j)) (λ _. 1) (λ j _. ind-le (B j)), sum-const n 1)

pub is_true_or_not : (b : Bool) → Dec (T b)
is_true_or_not true = yes tt
is_true_or_not false = no (λ t. t)

-- some number below n passes, or none does
pub find : (n : ℕ) (P : ℕ → Type 0) → ((i : ℕ) → Dec (P i)) → Dec ((i : ℕ) × (i < n) × P i)
find zero P d = no (λ r. omega (arith, r.1))
find (suc n) P d = go (find n P d) (d n)
  where
    go : Dec ((i : ℕ) × (i < n) × P i) → Dec (P n) → Dec ((i : ℕ) × (i < suc n) × P i)
    go (yes s) q = yes (s.0, omega (arith, s.1), s.2)
    go (no s) (yes p) = yes (n, omega arith, p)
    go (no s) (no p) = no at
      where
        at : (i : ℕ) × (i < suc n) × P i → ⊥
        at r = last (ℕ_discrete r.0 n)
          where
            last : Dec (r.0 ≡ n) → ⊥
            last (yes e) = p (subst P e r.2)
            last (no e) = s (r.0, omega (arith, r.1), r.2)
