-- Hall's condition, by weighing: the rows of A hold t each, all of it in the columns of B, which hold t each.
use mathlib.Core.Path.{◌≡◌, sym, ap, ◌∙◌}
use mathlib.Core.Logic.{◌≢◌, ◌⊎◌, inl, inr}
use mathlib.Core.Bool.{Bool, true, false}
use Prim.Native.Nat.{ℕ, ◌*◌, ◌≤◌, ◌<◌}
use native.Mathlib.Nat.{le_of_mul-le-mul_left, eq-zero-or-pos}
use native.Mathlib.Omega.{arith}
use lib.Dec.{T}
use Rattle.counting.specs.Sum.{sum}
use Rattle.counting.specs.Count.{ind, count}
use Rattle.counting.specs.Matrix.{row, col}
use Rattle.counting.proofs.Sum.{sum-cong, sum_mono, sum-mul, sum-swap}

within : (a b : Bool) (m : ℕ) → (T a → m ≢ 0 → T b) → ind a * m ≤ ind b * m
unfolding ind
within false b m h = omega arith
within true true m h = omega arith
within true false m h = go (eq-zero-or-pos m)
  where
    go : (m ≡ 0) ⊎ (0 < m) → ind true * m ≤ ind false * m
    go (inl e) = omega arith
    go (inr p) = absurd (h tt (omega arith))

-- If all lines sum to t, and every cell that is not 0 of a row in A lies in a column of B, then A has no more members than B.
pub hall : (N t : ℕ) (M : ℕ → ℕ → ℕ) (A B : ℕ → Bool) → 0 < t
    → ((i : ℕ) → i < N → row N M i ≡ t) → ((j : ℕ) → j < N → col N M j ≡ t)
    → ((i j : ℕ) → i < N → j < N → T (A i) → M i j ≢ 0 → T (B j))
    → count N A ≤ count N B
unfolding count row col
hall N t M A B p rows cols h = le_of_mul-le-mul_left {k = t} (omega (arith, left, middle, right)) p
  where
    left : t * sum N (λ i. ind (A i)) ≡ sum N (λ i. sum N (λ j. ind (A i) * M i j))
    left = sym (sum-mul N t (λ i. ind (A i)))
        ∙ sum-cong N (λ i. t * ind (A i)) (λ i. sum N (λ j. ind (A i) * M i j)) (λ i l. omega (arith, sum-mul N (ind (A i)) (λ j. M i j), ap (λ x. ind (A i) * x) (rows i l)))

    middle : sum N (λ i. sum N (λ j. ind (A i) * M i j)) ≤ sum N (λ i. sum N (λ j. ind (B j) * M i j))
    middle = sum_mono N _ _ (λ i l. sum_mono N _ _ (λ j k. within (A i) (B j) (M i j) (h i j l k)))

    right : sum N (λ i. sum N (λ j. ind (B j) * M i j)) ≡ t * sum N (λ j. ind (B j))
    right = sum-swap N N (λ i j. ind (B j) * M i j)
        ∙ sum-cong N (λ j. sum N (λ i. ind (B j) * M i j)) (λ j. t * ind (B j)) (λ j l. omega (arith, sum-mul N (ind (B j)) (λ i. M i j), ap (λ x. ind (B j) * x) (cols j l)))
        ∙ sum-mul N t (λ j. ind (B j))
