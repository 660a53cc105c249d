-- From 2 ^ 23 to 2 ^ 24 a binary32 is a whole number. So where 2 ^ 23 is added to x and taken off again, the whole number nearest to x is left, as a float.
use Prim.Native.Nat.{ℕ, ◌+◌, ◌-◌, ◌*◌, ◌/◌, ◌^◌, ◌<◌, ◌≤◌}
use native.Mathlib.Nat.{lt_of_not-le, not-le_of_lt, lt_of_lt_of_le, lt_of_le_of_lt, zero-add, sub-zero, add-sub_cancel_left, mul-one, mul_assoc, mul_right_comm, add-mul, mul-le-mul_right, mul-lt-mul_of_pos_right, eq_of_mul-eq-mul_right, div-one, mod-one, le-div_iff_mul-le, div-lt_iff_lt-mul, mul-pos}
use native.Mathlib.Omega.{arith}
use mathlib.Core.Path.{◌≡◌, refl, sym, ap, ◌∙◌, subst}
use mathlib.Core.Bool.{Bool, true, false, true≢false}
use borrow.Author.Tests.{lt-ltb, le-ltb}
use lib.Dec.{lit<}
use lib.IntN.{ℤ, pos}
use lib.Pow.{pow_pos, pow_mono}
use lib.Ieee.{Float, nan, inf, fin, binary32, up, down, size, round, sum, add, sub, neg, of_int}
use lib.Ieee.Digits.{size-lt, size-le}
use lib.Ieee.Exact.{HasValue}
use lib.Ieee.Fits.{down_pos}
use lib.Ieee.Nearest.{closest, closest_mono, closest_same}
use lib.Ieee.Scale.{round_val, round_same}
use Rattle.wish.specs.Wish.{most_slots, InRange}

-- ---- the whole number nearest to a fraction

closest-whole : (k : ℕ) → closest k 1 ≡ k
closest-whole k = rw (div-one, mod-one)

pub not-above : (a c k : ℕ) → 0 < c → a ≤ k * c → closest a c ≤ k
not-above a c k p h = rw closest-whole at (closest_mono a c k 1 p (omega arith) (rw mul-one h))

pub not-below : (a c k : ℕ) → 0 < c → k * c ≤ a → k ≤ closest a c
not-below a c k p h = rw closest-whole at (closest_mono k 1 a c (omega arith) p (rw mul-one h))

-- ---- a fraction from 2 ^ 23 to 2 ^ 24, rounded to a binary32

-- in units of the smallest value its whole part has 173 digits, of which 24 are kept
digits : (a c : ℕ) → 0 < c → 2 ^ 23 * c ≤ a → a < 2 ^ 24 * c → size (a * 2 ^ 149 / c) ≡ 173
digits a c p lo hi =
    let n = a * 2 ^ 149 in
    let low : 2 ^ 172 * c ≤ n = rw (mul_right_comm (2 ^ 23) (2 ^ 149) c) (mul-le-mul_right (2 ^ 149) lo) in
    let high : n < 2 ^ 173 * c = rw (mul_right_comm (2 ^ 24) (2 ^ 149) c) (mul-lt-mul_of_pos_right hi (pow_pos 149)) in
    let more : 172 < size (n / c) = lt_of_not-le (λ g. not-le_of_lt (lt_of_lt_of_le (size-lt (n / c)) (pow_mono g)) ((le-div_iff_mul-le p).1 low)) in
    let most : size (n / c) ≤ 173 = size-le (n / c) 173 ((div-lt_iff_lt-mul p).1 high) in
    omega arith

-- a fraction of the same size over 1
over-one : (x : Float) (w l : ℕ) → 0 < l → HasValue x false (w * l) l → HasValue x false w 1
over-one nan w l p v = v
over-one (inf t) w l p v = v
over-one (fin t m e) w l p v = (v.0, eq_of_mul-eq-mul_right l p (m * up e * 1) (w * down e) (ap (λ (z : ℕ). z * l) (mul-one (m * up e)) ∙ v.1 ∙ mul_right_comm w l (down e)))

-- it is rounded to the nearest whole number
rounded : (a c : ℕ) → 0 < c → 2 ^ 23 * c ≤ a → a < 2 ^ 24 * c → HasValue (round binary32 false a c) false (closest a c) 1
rounded a c p lo hi =
    let d : size (a * 2 ^ 149 / c) - 24 ≡ 149 = ap (λ (z : ℕ). z - 24) (digits a c p lo hi) in
    let same : closest (a * 2 ^ 149) (c * 2 ^ 149) ≡ closest a c =
    closest_same (a * 2 ^ 149) (c * 2 ^ 149) a c (mul-pos p (pow_pos 149)) p (mul_right_comm a (2 ^ 149) c ∙ mul_assoc a c (2 ^ 149)) in
    let is : closest (a * 2 ^ 149) (c * 2 ^ (size (a * 2 ^ 149 / c) - 24)) * 2 ^ (size (a * 2 ^ 149 / c) - 24) ≡ closest a c * 2 ^ 149 =
    ap (λ (z : ℕ). closest (a * 2 ^ 149) (c * 2 ^ z) * 2 ^ z) d ∙ ap (λ (z : ℕ). z * 2 ^ 149) same in
    let small : closest a c ≤ 2 ^ 24 = not-above a c (2 ^ 24) p (omega arith) in
    let under : closest a c * 2 ^ 149 < 2 ^ 277 = lt_of_le_of_lt (mul-le-mul_right (2 ^ 149) small) (lit< tt) in
    over-one (round binary32 false a c) (closest a c) (2 ^ 149) (pow_pos 149)
    (subst (λ (z : ℕ). HasValue (round binary32 false a c) false z (2 ^ 149)) is (round_val binary32 a c (subst (λ (z : ℕ). z < 2 ^ 277) (sym is) under)))

-- ---- x and 2 ^ 23

-- 2 ^ 23
abbrev pub big : Float
big = fin false 1 (pos 23)

-- the whole number nearest to num / den
unfoldable pub near : ℕ → ℕ → ℕ
near num den = closest (num + 2 ^ 23 * den) den - 2 ^ 23

module _ (num den : ℕ) (p : 0 < den) (h : num ≤ most_slots * den) where
  near-is : closest (num + 2 ^ 23 * den) den ≡ 2 ^ 23 + near num den
  unfolding near
  near-is = omega (arith, not-below (num + 2 ^ 23 * den) den (2 ^ 23) p (omega arith))

  -- it is at most every whole number that is not below, and at least every one that is not above
  pub near_le : (k : ℕ) → num ≤ k * den → near num den ≤ k
  near_le k l = omega (arith, near-is, not-above (num + 2 ^ 23 * den) den (2 ^ 23 + k) p (rw add-mul (omega arith)))

  pub near-ge : (k : ℕ) → k * den ≤ num → k ≤ near num den
  near-ge k l = omega (arith, near-is, not-below (num + 2 ^ 23 * den) den (2 ^ 23 + k) p (rw add-mul (omega arith)))

  pub near-small : near num den ≤ most_slots
  near-small = near_le most_slots h

  sum-value : HasValue (round binary32 false (num + 2 ^ 23 * den) den) false (2 ^ 23 + near num den) 1
  sum-value = rw near-is at (rounded (num + 2 ^ 23 * den) den p (omega arith) (omega arith))

-- 2 ^ 23 added to x
added : (s : Bool) (m : ℕ) (e : ℤ) → InRange (fin s m e) → add binary32 (fin s m e) big ≡ round binary32 false (m * up e + 2 ^ 23 * down e) (down e)
unfolding add sum
added false m e r = rw (mul-one (m * up e), mul-one (down e))
added true m e r = rw (r.0 refl, mul-one (down e), zero-add, lt-ltb 0 (2 ^ 23 * down e) (omega (arith, down_pos e)), sub-zero)

-- and taken off again
taken-off : (y : Float) (w : ℕ) → HasValue y false (2 ^ 23 + w) 1 → sub binary32 y big ≡ of_int binary32 (pos w)
unfolding sub add neg sum of_int
taken-off nan w v = absurd v
taken-off (inf t) w v = absurd v
taken-off (fin true m e) w v = absurd (true≢false v.0)
taken-off (fin false m e) w v =
    rw (v.1, add-mul, le-ltb (2 ^ 23 * down e + w * down e) (2 ^ 23 * down e) (omega arith), add-sub_cancel_left)
    (round_same binary32 false (w * down e) (down e * 1) w 1 (omega (arith, down_pos e)) (omega arith) (mul_assoc w (down e) 1))

-- the nearest whole number is left
pub left_near : (s : Bool) (m : ℕ) (e : ℤ) → InRange (fin s m e) → sub binary32 (add binary32 (fin s m e) big) big ≡ of_int binary32 (pos (near (m * up e) (down e)))
left_near s m e r = rw (added s m e r) (taken-off _ (near (m * up e) (down e)) (sum-value (m * up e) (down e) (down_pos e) r.1))
