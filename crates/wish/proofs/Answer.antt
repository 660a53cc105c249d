-- What is computed is what §4 asks, and nothing else is: each case of `wish_of` meets its rule, and a wish meets one rule alone.
use Rattle.std.specs.Prelude.{Err, Ok}
use Prim.Native.Nat.{ℕ, ◌*◌, ◌<◌, ◌≤◌}
use native.Mathlib.Nat.{mul-le-mul_right}
use native.Mathlib.Omega.{arith}
use mathlib.Core.Path.{◌≡◌, refl, sym}
use mathlib.Core.Bool.{Bool, true, false, true≢false}
use borrow.Author.Tests.{ltb-true, ltb-false, lt-ltb, le-ltb}
use lib.Dec.{ltb}
use lib.IntN.{ℤ}
use lib.Ieee.{Float, nan, inf, fin, up, down}
use lib.Ieee.Fits.{down_pos}
use Rattle.wish.specs.Wish.{most_slots, ceil, worth, finite, wish_of}
use Rattle.wish.specs.Meaning.{Answers, a-nan, an-infinity, below-zero, above_most, its-slots}
use Rattle.wish.specs.Wish.{Wish}
use Rattle.wish.specs.declared.Unfit.TheVariants.{BelowZero, AboveMost}
use Rattle.wish.proofs.Ceiling.{least-le, least-unique, ceil-least}

-- ---- the finite wish num / den, case by case

finite-below : (num den : ℕ) → 0 < num → finite true num den ≡ Err BelowZero
unfolding finite
finite-below num den h = rw (lt-ltb 0 num h)

finite-above : (num den : ℕ) → most_slots * den < num → finite false num den ≡ Err AboveMost
unfolding finite
finite-above num den h = rw (lt-ltb (most_slots * den) num h)

finite-slots : (s : Bool) (num den : ℕ) → (s ≡ true → num ≡ 0) → num ≤ most_slots * den → finite s num den ≡ Ok (worth (ceil num den))
unfolding finite
finite-slots true num den z h = rw (le-ltb 0 num (omega (arith, z refl)), le-ltb (most_slots * den) num h)
finite-slots false num den z h = rw (le-ltb (most_slots * den) num h)

-- ---- each wish has one answer

-- a wish that is neither below zero nor above the most is to be answered by the slots of its ceiling
pub slots-said : (s : Bool) (m : ℕ) (e : ℤ) → (s ≡ true → m * up e ≡ 0) → m * up e ≤ most_slots * down e → Answers (fin s m e) (Ok (worth (ceil (m * up e) (down e))))
slots-said s m e z h =
    let l = ceil-least (m * up e) (down e) (down_pos e) in
    its-slots z l (least-le (m * up e) (down e) (ceil (m * up e) (down e)) most_slots l h)

finite-said : (s : Bool) (m : ℕ) (e : ℤ) → Answers (fin s m e) (finite s (m * up e) (down e))
finite-said true m e = go (ltb 0 (m * up e)) refl
  where
    go : (some : Bool) → ltb 0 (m * up e) ≡ some → Answers (fin true m e) (finite true (m * up e) (down e))
    go true p = let h = ltb-true 0 (m * up e) p in rw (finite-below (m * up e) (down e) h) (below-zero h)
    go false p =
        let none : m * up e ≡ 0 = omega (arith, ltb-false 0 (m * up e) p) in
        rw (finite-slots true (m * up e) (down e) (λ t. none) (omega arith)) (slots-said true m e (λ t. none) (omega arith))
finite-said false m e = go (ltb (most_slots * down e) (m * up e)) refl
  where
    plus : false ≡ true → m * up e ≡ 0
    plus t = absurd (true≢false (sym t))

    go : (more : Bool) → ltb (most_slots * down e) (m * up e) ≡ more → Answers (fin false m e) (finite false (m * up e) (down e))
    go true p = let h = ltb-true (most_slots * down e) (m * up e) p in rw (finite-above (m * up e) (down e) h) (above_most h)
    go false p = let h = ltb-false (most_slots * down e) (m * up e) p in rw (finite-slots false (m * up e) (down e) plus h) (slots-said false m e plus h)

-- every wish is answered as it is to be
pub said : (x : Float) → Answers x (wish_of x)
unfolding wish_of
said nan = a-nan
said (inf s) = an-infinity
said (fin s m e) = finite-said s m e

-- and there is no other answer
pub only : {x : Float} {w : Wish} → Answers x w → w ≡ wish_of x
unfolding wish_of
only a-nan = refl
only an-infinity = refl
only (below-zero {m} {e} h) = sym (finite-below (m * up e) (down e) h)
only (above_most {m} {e} h) = sym (finite-above (m * up e) (down e) h)
only (its-slots {s} {m} {e} {k} z l h) =
    let fits : m * up e ≤ most_slots * down e = omega (arith, l.enough, mul-le-mul_right (down e) h) in
    let same = least-unique (m * up e) (down e) k (ceil (m * up e) (down e)) l (ceil-least (m * up e) (down e) (down_pos e)) in
    rw (finite-slots s (m * up e) (down e) z fits, same)
