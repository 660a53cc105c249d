-- Pieces laid one after the other: where each is laid behind those before it, together they are laid as one.
use mathlib.Core.Path.{◌≡◌, refl, sym, ap, ap₂, ◌∙◌}
use mathlib.Core.List.{List, [], ◌++◌}
use Prim.Native.Nat.{ℕ, zero, suc, ◌+◌, ◌-◌, ◌<◌, ◌≤◌}
use native.Mathlib.Omega.{arith}
use lib.ListN.{length, length-append}
use Rattle.records.specs.Bytes.{laid}
use Rattle.records.proofs.Laid.{laid_none, length-laid, laid_more}

-- S k are the first k, P k the one that follows
module _ (S P : ℕ → List ℕ) where
  -- of m pieces the first k are laid over d₀, up to next
  pub record Laying (d₀ : List ℕ) (m k : ℕ) (d : List ℕ) (next : ℕ) : Type 0 where
    pub inside : k ≤ m
    pub size : length d ≡ length d₀
    pub ends : next ≡ length (S k)
    pub is : d ≡ laid d₀ 0 (S k)

  pub laying-none : S 0 ≡ [] → (d₀ : List ℕ) (m : ℕ) → Laying d₀ m 0 d₀ 0
  laying-none z d₀ m = record { inside = omega arith; size = refl; ends = sym (ap length z); is = sym (ap (laid d₀ 0) z ∙ laid_none d₀ 0) }

  module _ (more : (k : ℕ) → S (k + 1) ≡ S k ++ P k) where
    next-size : (k : ℕ) → length (S (k + 1)) ≡ length (S k) + length (P k)
    next-size k = ap length (more k) ∙ length-append (S k) (P k)

    grow : (k n : ℕ) → length (S k) ≤ length (S (k + n))
    grow k zero = omega (arith, ap (λ (x : ℕ). length (S x)) (let q : k + 0 ≡ k = omega arith in q))
    grow k (suc n) = omega (arith, grow k n, next-size (k + n), ap (λ (x : ℕ). length (S x)) (let q : k + suc n ≡ k + n + 1 = omega arith in q))

    module _ (d₀ : List ℕ) (m : ℕ) (room : length (S m) ≤ length d₀) (k : ℕ) (l : k < m) (d : List ℕ) (next : ℕ) (p : Laying d₀ m k d next) where
      fits_next : length (S (k + 1)) ≤ length d₀
      fits_next = omega (arith, room, grow (k + 1) (m - (k + 1)), ap (λ (x : ℕ). length (S x)) (let q : k + 1 + (m - (k + 1)) ≡ m = omega arith in q))

      pub laying-room : next + length (P k) ≤ length d
      laying-room = omega (arith, p.ends, p.size, next-size k, fits_next)

      pub laying-more : (d' : List ℕ) → d' ≡ laid d next (P k) → (next' : ℕ) → next' ≡ next + length (P k) → Laying d₀ m (k + 1) d' next'
      laying-more d' w next' a = record {
        inside = omega arith;
        size = ap length w ∙ length-laid d next (P k) laying-room ∙ p.size;
        ends = omega (arith, p.ends, next-size k);
        is = w ∙ ap₂ (λ (x : List ℕ) (y : ℕ). laid x y (P k)) p.is (let q : next ≡ 0 + length (S k) = omega (arith, p.ends) in q)
            ∙ laid_more d₀ 0 (S k) (omega (arith, next-size k, fits_next)) (P k)
            ∙ ap (laid d₀ 0) (sym (more k));
      }
