-- The laws of counting: a test is worth 1 or 0, and a row of δ has at most one 1.
use mathlib.Core.Path.{◌≡◌, refl, sym, ◌∙◌}
use mathlib.Core.Logic.{◌≢◌}
use mathlib.Core.Bool.{Bool, true, false}
use Prim.Native.Nat.{ℕ, ◌≤◌, ◌<◌, ◌*◌}
use native.Mathlib.Omega.{arith}
use lib.Dec.{T, eqb, eqb→eq, eqb_refl}
use Rattle.counting.specs.Sum.{sum}
use Rattle.counting.specs.Count.{ind, δ}
use Rattle.counting.proofs.Sum.{sum-single, sum-most}

pub ind-true : (b : Bool) → T b → ind b ≡ 1
unfolding ind
ind-true true t = refl
ind-true false t = absurd t

pub ind-le : (b : Bool) → ind b ≤ 1
unfolding ind
ind-le true = omega arith
ind-le false = omega arith

pub ind-pos : (b : Bool) → 0 < ind b → T b
unfolding ind
ind-pos true p = tt
ind-pos false p = omega arith

pub ind-false : (b : Bool) → (T b → ⊥) → ind b ≡ 0
unfolding ind
ind-false true t = absurd (t tt)
ind-false false t = refl

pub δ-same : (i : ℕ) → δ i i ≡ 1
unfolding δ
δ-same i = ind-true (eqb i i) (eqb_refl i)

pub δ-other : (i j : ℕ) → i ≢ j → δ i j ≡ 0
unfolding δ
δ-other i j h = ind-false (eqb i j) (λ t. h (eqb→eq i j t))

pub δ-pos : (i j : ℕ) → 0 < δ i j → i ≡ j
unfolding δ
δ-pos i j p = eqb→eq i j (ind-pos (eqb i j) p)

pub δ-le : (i j : ℕ) → δ i j ≤ 1
unfolding δ
δ-le i j = ind-le (eqb i j)

-- in a row of the matrix of ones at j = i, below n
pub sum-δ : (n i : ℕ) → i < n → sum n (λ j. δ i j) ≡ 1
sum-δ n i l = sum-single n (λ j. δ i j) i l (λ j p q. δ-other i j (λ e. q (sym e))) ∙ δ-same i

pub sum-δ-le : (n i : ℕ) → sum n (λ j. δ i j) ≤ 1
sum-δ-le n i = sum-most n 1 (λ j. δ i j) (λ j l. δ-le i j) (λ j k p q a b. sym (δ-pos i j a) ∙ δ-pos i k b)

pub ind-mul-pos : (b : Bool) (x : ℕ) → 0 < ind b * x → T b × (0 < x)
unfolding ind
ind-mul-pos true x p = (tt, omega arith)
ind-mul-pos false x p = absurd (omega arith)
