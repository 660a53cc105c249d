-- The pigeonhole, by counting the links from each member of A to its image twice: by A each has one, by B each has at most one.
use mathlib.Core.Path.{◌≡◌, refl, sym, ap, ◌∙◌}
use mathlib.Core.Logic.{◌⊎◌, inl, inr}
use mathlib.Core.Bool.{Bool, true, false}
use Prim.Native.Nat.{ℕ, ◌*◌, ◌≤◌, ◌<◌}
use native.Mathlib.Nat.{eq-zero-or-pos}
use native.Mathlib.Omega.{arith}
use lib.Dec.{T}
use Rattle.counting.specs.Sum.{sum}
use Rattle.counting.specs.Count.{ind, count, δ}
use Rattle.counting.proofs.Sum.{sum_mono, sum-mul, sum-swap, sum-most}
use Rattle.counting.proofs.Count.{ind-true, ind-mul-pos, sum-δ, δ-pos, δ-le}

-- A map of the members of A below n, one to one, to members of B below m
pub pigeonhole : (n m : ℕ) (A B : ℕ → Bool) (f : ℕ → ℕ)
    → ((i : ℕ) → i < n → T (A i) → (f i < m) × T (B (f i)))
    → ((i k : ℕ) → i < n → k < n → T (A i) → T (A k) → f i ≡ f k → i ≡ k)
    → count n A ≤ count m B
unfolding count ind
pigeonhole n m A B f into inj = omega (arith, left, sum-swap n m link, right)
  where
    link : ℕ → ℕ → ℕ
    link i j = ind (A i) * δ (f i) j

    holds : (i : ℕ) → i < n → (a : Bool) → A i ≡ a → ind a ≤ sum m (λ j. ind a * δ (f i) j)
    holds i l true e = omega (arith, sum-δ m (f i) (into i l (rw e tt)).0, sum-mul m 1 (λ j. δ (f i) j))
    holds i l false e = omega arith

    left : sum n (λ i. ind (A i)) ≤ sum n (λ i. sum m (λ j. link i j))
    left = sum_mono n _ _ (λ i l. holds i l (A i) refl)

    one : (i j : ℕ) → i < n → j < m → link i j ≤ ind (B j)
    one i j l k = go (eq-zero-or-pos (link i j))
      where
        go : (link i j ≡ 0) ⊎ (0 < link i j) → link i j ≤ ind (B j)
        go (inl e) = omega arith
        go (inr p) =
            let c : T (A i) × (0 < δ (f i) j) = ind-mul-pos (A i) (δ (f i) j) p in
            let b : T (B j) = rw (δ-pos (f i) j c.1) at (into i l c.0).1 in
            omega (arith, ap (λ x. x * δ (f i) j) (ind-true (A i) c.0), δ-le (f i) j, ind-true (B j) b)

    right : sum m (λ j. sum n (λ i. link i j)) ≤ sum m (λ j. ind (B j))
    right = sum_mono m _ _ (λ j k. sum-most n (ind (B j)) (λ i. link i j) (λ i l. one i j l k)
        (λ i i' l l' p p'. inj i i' l l' (ind-mul-pos (A i) _ p).0 (ind-mul-pos (A i') _ p').0 (δ-pos _ _ (ind-mul-pos (A i) _ p).1 ∙ sym (δ-pos _ _ (ind-mul-pos (A i') _ p').1))))
