-- The quotients are cells that the exact planner takes, and its plan of them leaves room for the rotations behind it.
use mathlib.Core.Path.{◌≡◌}
use mathlib.Core.List.{List, map}
use Prim.Native.Nat.{ℕ, ◌+◌, ◌*◌, ◌≤◌}
use native.Mathlib.Omega.{arith}
use lib.ListN.{length}
use Rattle.switch.specs.declared.Edition.{Edition}
use Rattle.switch.specs.Demand.{cell, longest}
use Rattle.switch.specs.Sound.{Each, OfWidth}
use Rattle.switch.proofs.Sound.{each_width}
use Rattle.rules.specs.Exact.{exact_plan}
use Rattle.rules.specs.Doubled.{stretch}
use Rattle.rules.proofs.Exact.{exact-records}
use Rattle.rules.proofs.Sound.{exact-sound}
use Rattle.records.specs.Bytes.{bytes, laid}
use Rattle.peel.specs.Standing.{Cells}
use Rattle.exact.specs.Laying.{Place}
use Rattle.turns.specs.declared.Turning.TheVariants.{Forward}
use Rattle.turns.specs.Second.{second, parts, Divided}
use Rattle.turns.proofs.Divided.{asked, holding, sized, small}
use Rattle.turns.proofs.Both.{first-room, second-room, second-laid}

pub quotient-cells : {E : Edition} {N T u : ℕ} {d q : List ℕ} → Divided E N T u d q → {S : ℕ} → S ≡ longest N (cell N q) → Cells N S q
quotient-cells v longest-is = record {
  some = (asked v).some;
  few = (holding v).few;
  room = (sized v).room;
  longest-is = longest-is;
  small = small v longest-is;
}

-- the first part has no more records than the quotients' longest line
pub first-few : (W N S : ℕ) (q : List ℕ) → Cells N S q → N ≤ W → length (exact_plan W N q) ≤ S
first-few W N S q c wide = omega (arith, exact-records W N c.some wide q c.room, c.longest-is)

-- a place for both parts
module _ (W N S u : ℕ) (q H : List ℕ) (c : Cells N S q) (plan : List ℕ) (p : Place N S u W 0 (parts Forward W N u q H) plan) where
  room : length (parts Forward W N u q H) * (W + 4) ≤ length plan
  room = omega (arith, p.room)

  pub first-place : Place N S u W 0 (exact_plan W N q) plan
  first-place = record { wide = p.wide; narrow = p.narrow; fits = p.fits; room = omega (arith, first-room Forward W N u (exact_plan W N q) H plan room) }

  -- the first part is laid, and r is how many records it has
  module _ (e : ℕ) {plan₁ : List ℕ} (put : plan₁ ≡ laid plan 0 (bytes e N (map (stretch u) (exact_plan W N q)))) {r : ℕ} (count : r ≡ length (exact_plan W N q)) where
    widths : Each (OfWidth W) (exact_plan W N q)
    widths = each_width W N (exact-sound W N p.wide c.some q c.room)

    pub behind-room : r * (W + 4) + length (second Forward W N H) * (W + 4) ≤ length plan₁
    behind-room = second-room Forward W N u (exact_plan W N q) H plan room widths e put count

    pub behind-laid : laid plan₁ (r * (W + 4)) (bytes e N (second Forward W N H)) ≡ laid plan 0 (bytes e N (parts Forward W N u q H))
    behind-laid = second-laid Forward W N u (exact_plan W N q) H plan room widths e put count
