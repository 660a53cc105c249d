-- One turn of the loop takes the first record off what is left, and its hold, at least 1, off every line.
use mathlib.Core.Path.{◌≡◌, ap, ◌∙◌}
use mathlib.Core.Bool.{Bool, true}
use mathlib.Core.List.{List, [], ◌∷◌, map}
use Prim.Native.Nat.{ℕ, ◌+◌, ◌*◌, ◌-◌, ◌≤◌, ◌<◌}
use native.Mathlib.Omega.{arith}
use native.Mathlib.Nat.{mul-le-mul}
use mir.Syntax.{w64}
use mir.Val.{Fits}
use mir.Facts.{Fits-le, Fits-lit}
use lib.ListN.{length, take}
use Rattle.switch.specs.Plan.{Record}
use Rattle.rules.specs.Peel.{Peels, none, more}
use Rattle.rules.specs.Doubled.{stretch}
use Rattle.switch.specs.Sound.{Each, OfWidth}
use Rattle.rules.specs.Exact.{exact_plan}
use Rattle.rules.proofs.Exact.{exact-peels}
use Rattle.records.specs.Bytes.{bytes}
use Rattle.records.proofs.Bytes.{bytes-size}
use Rattle.peel.specs.Standing.{Cells, rest}
use Rattle.exact.specs.Laying.{Goes}

-- parts of a sum whose product is small have small products
pub parts-small : (a h b u k : ℕ) → a + h ≡ b → b * u ≤ k → (a * u ≤ k) × (h * u ≤ k)
parts-small a h b u k e l =
    let x : a ≤ b = omega arith in
    let y : h ≤ b = omega arith in
    let z : u ≤ u = omega arith in
    (omega (arith, mul-le-mul x z), omega (arith, mul-le-mul y z))

-- a turn takes hold h off what remains of every line, and counts one record more
module _ (remains l l' h : ℕ) (is : remains ≡ l) (falls : l' + h ≡ l) where
  pub turn-within : h ≤ remains
  turn-within = omega (arith, is, falls)

  pub turn-left : remains - h ≡ l'
  turn-left = omega (arith, is, falls)

  module _ (records longest : ℕ) (most : records + remains ≤ longest) where
    pub turn_small : longest ≤ 65535 → Fits w64 h
    turn_small s = Fits-le {n = 65535} (omega (arith, is, falls, most, s)) (Fits-lit tt)

    pub turn-most : 0 < h → records + 1 + (remains - h) ≤ longest
    turn-most some = omega (arith, is, falls, most, some)

pub turn-less : (remains h : ℕ) → 0 < h → 0 < remains → remains - h < remains
turn-less remains h some left = omega (arith, some, left)

pub turn-counted : (records remains longest : ℕ) → records + remains ≤ longest → longest ≤ 65535 → Fits w64 (records + 1)
turn-counted records remains longest most small = Fits-le {n = 65536} (omega (arith, most, small)) (Fits-lit tt)

-- one record fewer is left
pub one_fewer : {p q : List Record} {r : Record} → p ≡ r ∷ q → length p ≡ length q + 1
one_fewer e = ap length e ∙ omega arith

-- a plan by the rules has W outputs in each record, however long it is held
pub stretched-width : {W N : ℕ} (u : ℕ) {M : ℕ → ℕ → ℕ} {p : List Record} → Peels W N M p → Each (OfWidth W) (map (stretch u) p)
unfolding stretch
stretched-width u (none c) = Each.none
stretched-width u (more f t l s) = Each.more t.size (stretched-width u s)

pub length-stretched : (u : ℕ) (p : List Record) → length (map (stretch u) p) ≡ length p
length-stretched u [] = omega arith
length-stretched u (r ∷ p) = omega (arith, length-stretched u p)

-- there is room for the plan's bytes, where they are to be written
pub goes-room : {N T : ℕ} {writes : Bool} {W u at : ℕ} {w plan : List ℕ} → Cells N T w → Goes N T writes W u at w plan → (e : ℕ) → writes ≡ true
    → at + length (bytes e N (map (stretch u) (exact_plan W N w))) ≤ length plan
goes-room {N} {T} {writes} {W} {u} {at} {w} c g e y = omega (
  arith,
  bytes-size e N W (stretched-width u (exact-peels W N c.some (g.wide y) w c.room)),
  ap (λ k. k * (W + 4)) (length-stretched u (exact_plan W N w)),
  g.room y,
)

-- the first record of what is left, held u times as long
pub more-stretched : (u W N : ℕ) (w w' out : List ℕ) (h : ℕ) → rest W N w ≡ record { hold = h; outputs = take W out } ∷ rest W N w'
    → map (stretch u) (rest W N w) ≡ record { hold = h * u; outputs = take W out } ∷ map (stretch u) (rest W N w')
unfolding stretch
more-stretched u W N w w' out h e = ap (map (stretch u)) e
