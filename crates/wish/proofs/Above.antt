-- A wish above zero is rounded up to 1 at least, which is worth 2; any other that is taken is zero, and stays 0.
use Rattle.std.specs.Prelude.{Ok}
use mathlib.Core.Path.{◌≡◌, refl, sym, ap, ◌∙◌}
use mathlib.Core.Bool.{Bool, true, false, not, ◌&&◌, true≢false}
use Prim.Native.Nat.{ℕ, zero, suc, ◌*◌, ◌<◌, ◌≤◌}
use native.Mathlib.Nat.{mul-one, zero-mul}
use native.Mathlib.Omega.{arith}
use lib.Dec.{ltb}
use lib.IntN.{ℤ, pos}
use lib.Ieee.{Float, fin, up, down, lt, of_bits, binary32}
use borrow.Author.Tests.{ltb-true}
use Rattle.wish.specs.Wish.{Wish, worth, wish_of, wish_bits, code_of}
use Rattle.wish.specs.Meaning.{LeastNotBelow, Answers, a-nan, an-infinity, below-zero, above_most, its-slots, AboveZero}
use Rattle.wish.proofs.Answer.{said}
use Rattle.wish.proofs.Worth.{worth-two}

-- the comparison with zero, over whole numbers
above-is : (s : Bool) (m : ℕ) (e : ℤ) → lt (fin false 0 (pos 0)) (fin s m e) ≡ (not s && ltb 0 (m * up e))
unfolding lt
above-is true m e = refl
above-is false m e = simp (mul-one, zero-mul)

above-some : (s : Bool) (m : ℕ) (e : ℤ) → AboveZero (fin s m e) → 0 < m * up e
above-some true m e a = absurd (true≢false (sym a ∙ above-is true m e))
above-some false m e a = ltb-true 0 (m * up e) (sym (above-is false m e) ∙ a)

-- slots are no refusal
taken : {w : Wish} {k : ℕ} → w ≡ Ok k → code_of w ≡ 0
taken q = ap code_of q

-- what is at least as much as something above zero is above zero
not_none : (num den k : ℕ) → LeastNotBelow num den k → 0 < num → 0 < k
not_none num den zero l some = absurd (omega (arith, l.enough, zero-mul den))
not_none num den (suc k) l some = omega arith

above-said : {x : Float} {w : Wish} → Answers x w → AboveZero x → (k : ℕ) → w ≡ Ok k → 2 ≤ k
above-said a-nan a k q = absurd (omega (arith, taken q))
above-said an-infinity a k q = absurd (omega (arith, taken q))
above-said (below-zero h) a k q = absurd (omega (arith, taken q))
above-said (above_most h) a k q = absurd (omega (arith, taken q))
above-said (its-slots {s} {m} {e} {k} z l h) a n q =
    let same : worth k ≡ n = cc in omega (arith, worth-two k (not_none (m * up e) (down e) k l (above-some s m e a)))

-- a wish above zero never gives fewer than 2 slots
pub above-two : (x : Float) (k : ℕ) → AboveZero x → wish_of x ≡ Ok k → 2 ≤ k
above-two x k a q = above-said (said x) a k q

-- and so of its bits
pub bits-two : (b k : ℕ) → AboveZero (of_bits binary32 b) → wish_bits b ≡ Ok k → 2 ≤ k
unfolding wish_bits
bits-two b k a q = above-two (of_bits binary32 b) k a q
