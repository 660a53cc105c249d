-- Over whole numbers each comparison that `classify` makes is one of the rules of §4, so each way out has the answer that is asked for.
use Rattle.std.specs.Prelude.{Err, Ok}
use Prim.Native.Nat.{ℕ, ◌*◌}
use native.Mathlib.Nat.{le_trans, mul-one, zero-mul, add-zero, mul-le-mul_right}
use native.Mathlib.Omega.{arith}
use mathlib.Core.Path.{◌≡◌, refl, sym, ◌∙◌, subst}
use mathlib.Core.Bool.{Bool, true, false, not, ◌&&◌, true≢false}
use borrow.Author.Tests.{ltb-true, ltb-false, le-ltb}
use lib.Dec.{T, ltb}
use lib.IntN.{ℤ, pos}
use lib.Ieee.{Float, nan, inf, fin, up, down, lt, eq, ne, is_nan}
use lib.Ieee.Compare.{differs_from_itself}
use Rattle.wish.specs.Wish.{most_slots, worth, ceil_of, wish_of, InRange, code_of}
use Rattle.wish.specs.Meaning.{Answers, a-nan, an-infinity, below-zero, above_most, its-slots}
use Rattle.wish.specs.Wish.{Wish}
use Rattle.wish.specs.declared.Unfit.TheVariants.{NotFinite, BelowZero, AboveMost}
use Rattle.wish.proofs.Answer.{only, said, slots-said}

-- ---- no number, or an infinity

pub at-nan : (x : Float) → ne x x ≡ true → Err NotFinite ≡ wish_of x
unfolding wish_of
at-nan x h = rw (differs_from_itself x (subst T (sym h) tt))

pub of_nan : (x : Float) → is_nan x ≡ true → Err NotFinite ≡ wish_of x
unfolding wish_of is_nan
of_nan nan h = refl
of_nan (inf s) h = absurd (true≢false (sym h))
of_nan (fin s m e) h = absurd (true≢false (sym h))

pub at-inf : (x : Float) (s : Bool) → eq x (inf s) ≡ true → Err NotFinite ≡ wish_of x
unfolding wish_of eq
at-inf nan s h = refl
at-inf (inf t) s h = refl
at-inf (fin t m e) s h = absurd (true≢false (sym h))

-- x is none of those
pub record Finite (x : Float) : Type 0 where
  pub number : ne x x ≡ false
  pub not-plus : eq x (inf false) ≡ false
  pub not-minus : eq x (inf true) ≡ false

not-nan : Finite nan → ⊥
unfolding ne
not-nan f = true≢false f.number

not-inf : (s : Bool) → Finite (inf s) → ⊥
unfolding eq
not-inf true f = true≢false f.not-minus
not-inf false f = true≢false f.not-plus

-- ---- a finite x below 0, and above the most slots

-- 0.0 and 65535.0
abbrev nought : Float
nought = fin false 0 (pos 0)

abbrev most : Float
most = fin false most_slots (pos 0)

below-nought : (s : Bool) (m : ℕ) (e : ℤ) → lt (fin s m e) nought ≡ (s && ltb 0 (m * up e))
unfolding lt
below-nought true m e = simp (mul-one, zero-mul, add-zero)
below-nought false m e = le-ltb (m * up e * 1) (0 * down e) (rw zero-mul (omega arith))

above : (s : Bool) (m : ℕ) (e : ℤ) → lt most (fin s m e) ≡ (not s && ltb (most_slots * down e) (m * up e))
unfolding lt
above true m e = refl
above false m e = simp mul-one

pub at-below-zero : (x : Float) → Finite x → lt x nought ≡ true → Err BelowZero ≡ wish_of x
at-below-zero nan f h = absurd (not-nan f)
at-below-zero (inf s) f h = absurd (not-inf s f)
at-below-zero (fin true m e) f h = only (below-zero (ltb-true 0 (m * up e) (sym (below-nought true m e) ∙ h)))
at-below-zero (fin false m e) f h = absurd (true≢false (sym h ∙ below-nought false m e))

pub at-above-most : (x : Float) → Finite x → lt most x ≡ true → Err AboveMost ≡ wish_of x
at-above-most nan f k = absurd (not-nan f)
at-above-most (inf s) f k = absurd (not-inf s f)
at-above-most (fin true m e) f k = absurd (true≢false (sym k ∙ above true m e))
at-above-most (fin false m e) f k = only (above_most (ltb-true (most_slots * down e) (m * up e) (sym (above false m e) ∙ k)))

-- ---- a finite x between them

pub in-range : (x : Float) → Finite x → lt x nought ≡ false → lt most x ≡ false → InRange x
in-range nan f h k = not-nan f
in-range (inf s) f h k = not-inf s f
in-range (fin true m e) f h k =
    let none : m * up e ≡ 0 = omega (arith, ltb-false 0 (m * up e) (sym (below-nought true m e) ∙ h)) in
    (λ p. none, omega arith)
in-range (fin false m e) f h k = (λ p. absurd (true≢false (sym p)), ltb-false (most_slots * down e) (m * up e) (sym (above false m e) ∙ k))

pub at_slots : (x : Float) → InRange x → Ok (worth (ceil_of x)) ≡ wish_of x
unfolding ceil_of
at_slots nan r = absurd r
at_slots (inf s) r = absurd r
at_slots (fin s m e) r = only (slots-said s m e r.0 r.1)

-- ---- an x that is not refused

taken-range : {x : Float} {w : Wish} → Answers x w → code_of w ≡ 0 → InRange x
taken-range a-nan q = absurd (omega arith)
taken-range an-infinity q = absurd (omega arith)
taken-range (below-zero h) q = absurd (omega arith)
taken-range (above_most h) q = absurd (omega arith)
taken-range (its-slots {s} {m} {e} {k} z l h) q = (z, le_trans l.enough (mul-le-mul_right (down e) h))

pub range-of : (x : Float) → code_of (wish_of x) ≡ 0 → InRange x
range-of x q = taken-range (said x) q

pub no_nan : (x : Float) → InRange x → is_nan x ≡ false
unfolding is_nan
no_nan nan r = absurd r
no_nan (inf s) r = absurd r
no_nan (fin s m e) r = refl
