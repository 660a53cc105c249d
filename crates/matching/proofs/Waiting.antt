-- Who waits, looked at from the first to the last.
use mathlib.Core.Path.{◌≡◌, subst}
use mathlib.Core.Logic.{◌⊎◌, inl, inr, ⊎_elim}
use Prim.Native.Nat.{ℕ, ◌+◌, ◌<◌, ◌≤◌}
use native.Mathlib.Decide.{ℕ_discrete, dec_lt}
use native.Mathlib.Omega.{arith}
use Rattle.sets.specs.Label.{In, Cleared, LowestAt}

-- every one that waits is among the rest or below `last`, and none of the rest is
pub record Passed (waiting rest last : ℕ) : Type 0 where
  pub all : (m : ℕ) → In waiting m → In rest m ⊎ (m < last)
  pub behind : (m : ℕ) → In rest m → last ≤ m

pub passed-more : (waiting rest last i rest' : ℕ) → Passed waiting rest last → LowestAt 128 rest i → Cleared rest i rest' → Passed waiting rest' (i + 1)
passed-more waiting rest last i rest' p l c = record {
  all = λ m x. all m (p.all m x) (ℕ_discrete m i);
  behind = λ m x. above m x (ℕ_discrete m i);
}
  where
    all : (m : ℕ) → In rest m ⊎ (m < last) → Dec (m ≡ i) → In rest' m ⊎ (m < i + 1)
    all m s (yes e) = inr (omega arith)
    all m (inl x) (no f) = inl (c.kept m x f)
    all m (inr h) (no f) = inr (omega (arith, p.behind i l.here))

    above : (m : ℕ) → In rest' m → Dec (m ≡ i) → i + 1 ≤ m
    above m x (yes e) = absurd (c.gone (subst (In rest') e x))
    above m x (no f) = go (dec_lt m i)
      where
        go : Dec (m < i) → i + 1 ≤ m
        go (yes h) = absurd (l.past m h (c.less m x))
        go (no h) = omega arith

pub passed-all : (waiting rest last : ℕ) → Passed waiting rest last → ((m : ℕ) → In rest m → ⊥) → (m : ℕ) → In waiting m → m < last
passed-all waiting rest last p none m x = ⊎_elim (λ y. absurd (none m y)) (λ y. y) (p.all m x)
