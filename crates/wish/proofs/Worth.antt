-- Above zero the larger of 2 and the ceiling is that ceiling but where it is 1.
use mathlib.Core.Path.{◌≡◌, refl, ap}
use Prim.Native.Nat.{ℕ, zero, suc, ◌*◌, ◌≤◌, ◌<◌}
use native.Mathlib.Omega.{arith}
use Rattle.wish.specs.Wish.{worth, ceil}
use Rattle.wish.proofs.Ceiling.{ceil-least}

pub worth-one : worth 1 ≡ 2
unfolding worth
worth-one = refl

-- a wish above zero never gives fewer than 2
pub worth-two : (k : ℕ) → 0 < k → 2 ≤ worth k
unfolding worth
worth-two zero l = omega arith
worth-two (suc k) l = omega arith

-- nor fewer than before
pub worth-enough : (k : ℕ) → k ≤ worth k
unfolding worth
worth-enough zero = omega arith
worth-enough (suc k) = omega arith

-- no other number than 1 changes
pub worth-same : (k : ℕ) → (k ≡ 1 → ⊥) → worth k ≡ k
unfolding worth
worth-same zero n = refl
worth-same (suc zero) n = absurd (n refl)
worth-same (suc (suc k)) n = omega arith

-- so only wishes of at most 1 change
pub worth-changed : (num den : ℕ) → 0 < den → den < num → worth (ceil num den) ≡ ceil num den
worth-changed num den pos above = worth-same (ceil num den) (λ e. omega (arith, (ceil-least num den pos).enough, ap (λ x. x * den) e, above))
