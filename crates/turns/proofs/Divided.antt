-- The quotients' lines times u are at most T and at most u N, so they are few and small; and the plan by a rule is the exact plan of them,
-- each hold multiplied by u, and then the settings held for what the rule says.
use Rattle.std.specs.Prelude.{Ok}
use mathlib.Core.Path.{◌≡◌, sym, ap, ◌∙◌}
use mathlib.Core.List.{List, ◌++◌, map}
use Prim.Native.Nat.{ℕ, ◌*◌, ◌≤◌}
use native.Mathlib.Omega.{arith}
use native.Mathlib.Nat.{mul-le-mul, div-mul-le_self, mul-le-mul_right, le-mul_of_pos_right, le_of_mul-le-mul_right}
use lib.ListN.{length}
use borrow.Author.Tests.{ne_eqb}
use Rattle.switch.specs.declared.Edition.{Edition}
use Rattle.switch.specs.Editions.{Bounded}
use Rattle.switch.specs.Demand.{cell, longest}
use Rattle.switch.specs.Plan.{Record, total}
use Rattle.demand.specs.Check.{check_demand, Asked}
use Rattle.demand.specs.Lines.{Sized}
use Rattle.demand.proofs.Check.{fine-asked}
use Rattle.rules.specs.Exact.{tab, exact_plan}
use Rattle.rules.specs.Doubled.{unit, divide, stretch, turns, doubled_by}
use Rattle.rules.proofs.Exact.{exact-records, exact-total}
use Rattle.rules.proofs.Doubled.{length-divide, longest-divide, unit-above}
use Rattle.turns.specs.declared.Rule.{Rule}
use Rattle.turns.specs.declared.Turning.{Turning}
use Rattle.turns.specs.Second.{turn, holds_by, doubled_rule, parts, Asks, Splits, Holding, Divided}
use Rattle.turns.proofs.Holds.{unit-holding, table-turns}

-- cells and holds for the largest switch do for the cells and the settings of a demand that no check refuses
module _ (most N T : ℕ) (d : List ℕ) (fine : check_demand most N d ≡ Ok T) where
  pub cells_fit : (room : ℕ) → most * most ≤ room → length d ≤ room
  cells_fit room l = let a = fine-asked most N T d fine in omega (arith, l, a.size, mul-le-mul a.few a.few)

  pub holds-fit : (room : ℕ) → most ≤ room → N ≤ room
  holds-fit room l = omega (arith, l, (fine-asked most N T d fine).few)

-- a demand that no check refuses, and that asks for something
module _ {E : Edition} {N T : ℕ} {d : List ℕ} (fine : check_demand E.ports N d ≡ Ok T) (bounded : Bounded E) (some : T ≡ 0 → ⊥) where
  pub fine-asks : Asks N T d
  fine-asks = let a = fine-asked E.ports N T d fine in record {
    some = a.some;
    few = omega (arith, a.few, bounded.ports, bounded.width);
    room = omega (arith, a.size);
    least = omega (arith, some);
    most = a.small;
  }

  pub divided : {r : Rule} {t : Turning} {u : ℕ} {q H : List ℕ} → Splits r t N T d u q H → Divided E N T u d q
  divided s = record { fine = fine; bounded = bounded; some = fine-asks.least; unit-is = s.unit-is; quotients-are = s.quotients-are }

module _ {E : Edition} {N T u : ℕ} {d q : List ℕ} (v : Divided E N T u d q) where
  pub asked : Asked E.ports N T d
  asked = fine-asked E.ports N T d v.fine

  -- a record has an output for every port
  pub wide : N ≤ E.width
  wide = omega (arith, asked.few, v.bounded.ports)

  pub holding : Holding N u d
  holding = unit-holding (fine-asks v.fine v.bounded (λ z. omega (arith, v.some, z))) v.unit-is

  pub size : length q ≡ N * N
  size = ap length v.quotients-are ∙ length-divide u d ∙ asked.size

  pub sized : Sized N q
  sized = record { few = holding.few; room = omega (arith, size) }

  -- the plan by a rule is the two parts, its settings held for what the rule says
  pub rule-parts : (r : Rule) (t : Turning) (H : List ℕ) → H ≡ tab N 0 (holds_by r t N d u) → doubled_rule r t E.width N d ≡ parts t E.width N u q H
  rule-parts r t H e = unfold doubled_by in
      rw (ne_eqb (longest N (cell N d)) 0 (omega (arith, asked.longest-is, v.some)))
      (ap (λ (x : ℕ). map (stretch x) (exact_plan E.width N (divide x d)) ++ turns E.width (turn t N) (holds_by r t N d x) N 0) (ap (unit N) (sym asked.longest-is) ∙ sym v.unit-is)
      ∙ ap (λ (p : List Record). map (stretch u) (exact_plan E.width N (divide u d)) ++ p) (table-turns t E.width N (holds_by r t N d u) H e)
      ∙ ap (λ (x : List ℕ). parts t E.width N u x H) (sym v.quotients-are))

  -- the quotients' T
  module _ {S : ℕ} (longest-is : S ≡ longest N (cell N q)) where
    -- times u it is at most T
    pub within : S * u ≤ T
    within = omega (
      arith,
      ap (λ (k : ℕ). k * u) (longest-is ∙ ap (λ (l : List ℕ). longest N (cell N l)) v.quotients-are),
      mul-le-mul_right u (longest-divide N u d holding.least),
      div-mul-le_self (longest N (cell N d)) u,
      asked.longest-is,
    )

    pub within-ports : S ≤ N
    within-ports = le_of_mul-le-mul_right {m = S} {n = N} {k = u} (omega (arith, within, unit-above N T asked.some, ap (λ (x : ℕ). x * N) v.unit-is)) holding.least

    pub small : S ≤ 65535
    small = omega (arith, within, asked.small, le-mul_of_pos_right S holding.least)

    -- the first part has that total, and no more records
    pub first-total : total (exact_plan E.width N q) ≡ S
    first-total = exact-total E.width N asked.some wide q sized.room ∙ sym longest-is

    pub first-records : length (exact_plan E.width N q) ≤ S
    first-records = omega (arith, exact-records E.width N asked.some wide q sized.room, longest-is)
