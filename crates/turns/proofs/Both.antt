-- The two parts, one behind the other: their records, totals and bytes are added up. For any first part whose records are as wide.
use mathlib.Core.Path.{◌≡◌, ap, ◌∙◌}
use mathlib.Core.List.{List, ◌++◌, map}
use Prim.Native.Nat.{ℕ, ◌+◌, ◌*◌, ◌≤◌}
use native.Mathlib.Omega.{arith}
use native.Mathlib.Nat.{div-mul-le_self, mul-le-mul_right}
use lib.ListN.{length, get_or, length-map, length-append}
use Rattle.switch.specs.Plan.{Record, total}
use Rattle.switch.specs.Sound.{Each, none, more, OfWidth}
use Rattle.switch.proofs.Append.{total-append}
use Rattle.rules.specs.Doubled.{stretch}
use Rattle.rules.proofs.Doubled.{total-stretch}
use Rattle.records.specs.Bytes.{whole, bytes, laid}
use Rattle.records.proofs.Bytes.{bytes-append, bytes-size}
use Rattle.records.proofs.Parts.{part_length, part-laid}
use Rattle.turns.specs.declared.Turning.{Turning}
use Rattle.turns.specs.Second.{turn, second}
use Rattle.turns.proofs.Turns.{turns-width}

-- a record has as many outputs, however long it is held
stretch-width : {W : ℕ} (u : ℕ) {p : List Record} → Each (OfWidth W) p → Each (OfWidth W) (map (stretch u) p)
unfolding stretch
stretch-width u none = none
stretch-width u (more w s) = more w (stretch-width u s)

pub stretched-size : (e N W u : ℕ) {p : List Record} → Each (OfWidth W) p → length (bytes e N (map (stretch u) p)) ≡ length p * (W + 4)
stretched-size e N W u {p} s = bytes-size e N W (stretch-width u s) ∙ ap (λ (k : ℕ). k * (W + 4)) (length-map p (stretch u))

-- the first part is p, each hold multiplied by u, and the second is held for H
module _ (t : Turning) (W N u : ℕ) (p : List Record) (H : List ℕ) where
  abbrev pub both : List Record
  both = map (stretch u) p ++ second t W N H

  pub both-records : length both ≡ length p + length (second t W N H)
  both-records = omega (arith, length-append (map (stretch u) p) (second t W N H), length-map p (stretch u))

  pub both-total : total both ≡ total p * u + total (second t W N H)
  both-total = omega (arith, total-append (map (stretch u) p) (second t W N H), total-stretch u p)

  pub both-room : (plan : List ℕ) → length both ≤ whole W plan → length both * (W + 4) ≤ length plan
  both-room plan l = omega (arith, div-mul-le_self (length plan) (W + 4), mul-le-mul_right (W + 4) l)

  module _ (plan : List ℕ) (room : length both * (W + 4) ≤ length plan) where
    sizes : (length p + length (second t W N H)) * (W + 4) ≤ length plan
    sizes = omega (arith, room, ap (λ (k : ℕ). k * (W + 4)) both-records)

    pub first-room : length p * (W + 4) ≤ length plan
    first-room = omega (arith, sizes)

    module _ (widths : Each (OfWidth W) p) (e : ℕ) where
      fits : 0 + length (bytes e N both) ≤ length plan
      fits = omega (
        arith,
        sizes,
        ap length (bytes-append e N (map (stretch u) p) (second t W N H)),
        length-append (bytes e N (map (stretch u) p)) (bytes e N (second t W N H)),
        stretched-size e N W u widths,
        bytes-size e N W (turns-width (turn t N) (λ k. get_or H k 0) N W N 0),
      )

      -- the first part is laid, and r is how many records it has
      module _ {plan₁ : List ℕ} (put : plan₁ ≡ laid plan 0 (bytes e N (map (stretch u) p))) {r : ℕ} (count : r ≡ length p) where
        pub second-room : r * (W + 4) + length (second t W N H) * (W + 4) ≤ length plan₁
        second-room = omega (arith, sizes, ap (λ (k : ℕ). k * (W + 4)) count, part_length e N plan 0 (map (stretch u) p) (second t W N H) fits plan₁ put)

        pub second-laid : laid plan₁ (r * (W + 4)) (bytes e N (second t W N H)) ≡ laid plan 0 (bytes e N both)
        second-laid =
            ap (λ (k : ℕ). laid plan₁ k (bytes e N (second t W N H))) (omega (arith, stretched-size e N W u widths, ap (λ (k : ℕ). k * (W + 4)) count))
            ∙ part-laid e N plan 0 (map (stretch u) p) (second t W N H) fits plan₁ put
