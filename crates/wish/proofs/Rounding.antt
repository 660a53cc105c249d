-- The whole number w that is nearest to x is above x - 1 and below x + 1, and as a float it is exact; so comparing the two says which of w and w + 1 is the ceiling.
use Prim.Native.Nat.{ℕ, ◌+◌, ◌*◌, ◌^◌, ◌<◌, ◌≤◌}
use native.Mathlib.Nat.{mul-one, mul_right_comm, suc-mul, mul-lt-mul_of_pos_right, mul-le-mul_right}
use native.Mathlib.Numerals.{add-one}
use native.Mathlib.Omega.{arith}
use mathlib.Core.Path.{◌≡◌, refl, sym, ◌∙◌}
use mathlib.Core.Bool.{Bool, true, false, not, ◌&&◌, true≢false}
use borrow.Author.Tests.{ltb-true, ltb-false, lt-ltb, le-ltb}
use lib.Dec.{T, ltb, le→leb}
use lib.IntN.{ℤ, pos}
use lib.Ieee.{Float, nan, inf, fin, binary32, up, down, lt, add, sub, of_int, to_unsigned, in_float, in_unsigned}
use lib.Ieee.Exact.{HasValue}
use lib.Ieee.Fits.{down_pos}
use lib.Ieee.Back.{round_whole, unsigned_back}
use Rattle.wish.specs.Wish.{most_slots, ceil, ceil_of, InRange}
use Rattle.wish.proofs.Ceiling.{least-unique, ceil-least, ceil-next}
use Rattle.wish.proofs.Nearest.{big, near, near_le, near-ge, near-small, left_near}

-- ---- the whole number nearest to num / den, and the ceiling

module _ (num den : ℕ) (p : 0 < den) (h : num ≤ most_slots * den) where
  near_next : near num den * den < num → near num den + 1 ≡ ceil num den
  near_next l = ceil-next num den (near num den) p l (omega (arith, more))
    where
      more : near num den * den + den ≤ num → ⊥
      more g = omega (arith, near-ge num den p h (near num den + 1) (rw (add-one, suc-mul) g))

  near_same : num ≤ near num den * den → near num den ≡ ceil num den
  near_same l = least-unique num den (near num den) (ceil num den) (record { enough = l; least = below }) (ceil-least num den p)
    where
      below : (j : ℕ) → j < near num den → j * den < num
      below j g = omega (arith, not_yet)
        where
          not_yet : num ≤ j * den → ⊥
          not_yet e = omega (arith, near_le num den p h j e)

-- ---- as floats

-- what is left of x with 2 ^ 23 added and taken off
abbrev pub left_of : Float → Float
left_of x = sub binary32 (add binary32 x big) big

-- every whole number up to the most slots is an f32
held : (t : ℕ) → t ≤ most_slots → T (in_float binary32 (pos t))
unfolding in_float
held t h = le→leb t (2 ^ 24) (omega arith)

whole-value : (t : ℕ) → t ≤ most_slots → HasValue (of_int binary32 (pos t)) false t 1
unfolding of_int
whole-value t h = round_whole binary32 false t (omega arith)

ltb-scale : (a b c : ℕ) → 0 < c → ltb (a * c) (b * c) ≡ ltb a b
ltb-scale a b c p = go (ltb a b) refl
  where
    go : (v : Bool) → ltb a b ≡ v → ltb (a * c) (b * c) ≡ v
    go true h = lt-ltb (a * c) (b * c) (mul-lt-mul_of_pos_right (ltb-true a b h) p)
    go false h = le-ltb (a * c) (b * c) (mul-le-mul_right c (ltb-false a b h))

lt-value : (y : Float) (t : ℕ) (s : Bool) (m : ℕ) (e : ℤ) → HasValue y false t 1 → lt y (fin s m e) ≡ (not s && ltb (t * down e) (m * up e))
unfolding lt
lt-value nan t s m e p = absurd p
lt-value (inf q) t s m e p = absurd p
lt-value (fin true n d) t s m e p = absurd (true≢false p.0)
lt-value (fin false n d) t true m e p = refl
lt-value (fin false n d) t false m e p =
    let same : n * up d ≡ t * down d = sym (mul-one (n * up d)) ∙ p.1 in
    rw (same, mul_right_comm t (down d) (down e)) (ltb-scale (t * down e) (m * up e) (down d) (down_pos d))

module _ (s : Bool) (m : ℕ) (e : ℤ) (r : InRange (fin s m e)) where
  small : near (m * up e) (down e) ≤ most_slots
  small = near-small (m * up e) (down e) (down_pos e) r.1

  -- what is left casts to the nearest whole number
  cast : T (in_unsigned binary32 32 (left_of (fin s m e))) × (to_unsigned 32 (left_of (fin s m e)) ≡ near (m * up e) (down e))
  cast = rw (left_near s m e r) (unsigned_back binary32 32 (near (m * up e) (down e)) (held _ small) (omega (arith, small)))

  -- and is below x where that number is
  test-is : lt (left_of (fin s m e)) (fin s m e) ≡ (not s && ltb (near (m * up e) (down e) * down e) (m * up e))
  test-is = rw (left_near s m e r) (lt-value _ (near (m * up e) (down e)) s m e (whole-value _ small))

-- ---- what `rounded_up` does with an x in range

pub castable : (x : Float) → InRange x → T (in_unsigned binary32 32 (left_of x))
castable nan r = absurd r
castable (inf s) r = absurd r
castable (fin s m e) r = (cast s m e r).0

pub cast-small : (x : Float) → InRange x → to_unsigned 32 (left_of x) ≤ most_slots
cast-small nan r = absurd r
cast-small (inf s) r = absurd r
cast-small (fin s m e) r = rw (cast s m e r).1 (small s m e r)

pub rounded-next : (x : Float) → InRange x → lt (left_of x) x ≡ true → to_unsigned 32 (left_of x) + 1 ≡ ceil_of x
unfolding ceil_of
rounded-next nan r h = absurd r
rounded-next (inf s) r h = absurd r
rounded-next (fin true m e) r h = absurd (true≢false (sym h ∙ test-is true m e r))
rounded-next (fin false m e) r h =
    rw (cast false m e r).1
    (near_next (m * up e) (down e) (down_pos e) r.1 (ltb-true _ _ (sym (test-is false m e r) ∙ h)))

pub rounded-same : (x : Float) → InRange x → lt (left_of x) x ≡ false → to_unsigned 32 (left_of x) ≡ ceil_of x
unfolding ceil_of
rounded-same nan r h = absurd r
rounded-same (inf s) r h = absurd r
rounded-same (fin true m e) r h = rw (cast true m e r).1 (near_same (m * up e) (down e) (down_pos e) r.1 (omega (arith, r.0 refl)))
rounded-same (fin false m e) r h =
    rw (cast false m e r).1
    (near_same (m * up e) (down e) (down_pos e) r.1 (ltb-false _ _ (sym (test-is false m e r) ∙ h)))
