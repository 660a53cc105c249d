-- Rounding up gives the least whole number not below: k * den is first at least num where k is (num + (den - 1)) / den.
use Prim.Native.Nat.{ℕ, ◌+◌, ◌-◌, ◌*◌, ◌/◌, ◌<◌, ◌≤◌}
use native.Mathlib.Nat.{le_antisymm, div-mul-le_self, lt-div-mul-add, mul-le-mul_right, mul-lt-mul_of_pos_right, suc-mul}
use native.Mathlib.Numerals.{add-one}
use native.Mathlib.Omega.{arith}
use mathlib.Core.Path.{◌≡◌}
use Rattle.wish.specs.Wish.{ceil}
use Rattle.wish.specs.Meaning.{LeastNotBelow}

-- the least is at most any other that is not below
pub least-le : (num den k j : ℕ) → LeastNotBelow num den k → num ≤ j * den → k ≤ j
least-le num den k j h e = omega (arith, not_more)
  where
    not_more : j < k → ⊥
    not_more l = omega (arith, h.least j l)

-- so there is only one
pub least-unique : (num den k j : ℕ) → LeastNotBelow num den k → LeastNotBelow num den j → k ≡ j
least-unique num den k j h i = le_antisymm (least-le num den k j h i.enough) (least-le num den j k i h.enough)

-- and it is the ceiling
pub ceil-least : (num den : ℕ) → 0 < den → LeastNotBelow num den (ceil num den)
unfolding ceil
ceil-least num den d =
    let q = (num + (den - 1)) / den in
    let lo : q * den ≤ num + (den - 1) = div-mul-le_self (num + (den - 1)) den in
    let hi : num + (den - 1) < q * den + den = lt-div-mul-add d in
    record { enough = omega arith; least = λ j l. omega (arith, mul-le-mul_right den l, suc-mul j den) }

-- the whole part q is the ceiling where nothing is left over
pub ceil-same : (num den q : ℕ) → 0 < den → q * den ≡ num → q ≡ ceil num den
ceil-same num den q d h =
    least-unique num den q (ceil num den)
    (record { enough = omega arith; least = λ j l. omega (arith, mul-lt-mul_of_pos_right l d) })
    (ceil-least num den d)

-- and else the next number is
pub ceil-next : (num den q : ℕ) → 0 < den → q * den < num → num ≤ q * den + den → q + 1 ≡ ceil num den
ceil-next num den q d h k =
    least-unique num den (q + 1) (ceil num den)
    (record { enough = rw (add-one, suc-mul) k; least = below })
    (ceil-least num den d)
  where
    le : (j : ℕ) → j < q + 1 → j ≤ q
    le j l = omega arith

    below : (j : ℕ) → j < q + 1 → j * den < num
    below j l = omega (arith, mul-le-mul_right den (le j l))
