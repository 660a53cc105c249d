-- The demand at the start of the working copy has the demand's exact plan.
use mathlib.Core.Path.{◌≡◌, refl, sym, ap, ap₂, ◌∙◌}
use mathlib.Core.List.{List, [], ◌∷◌, ◌++◌, map}
use Prim.Native.Nat.{ℕ, ◌+◌, ◌*◌, ◌/◌, ◌≤◌, ◌<◌}
use native.Mathlib.Omega.{arith}
use native.Mathlib.Nat.{mul-le-mul_right, le_of_eq, div-mul-le_self, mul-one}
use lib.ListN.{length, get_or, length-append, get_or-append}
use lib.Arith.{digits_lt}
use Rattle.switch.specs.declared.Edition.{Edition}
use Rattle.switch.specs.Editions.{Bounded}
use Rattle.switch.specs.Demand.{cell}
use Rattle.switch.specs.Plan.{Record}
use Rattle.demand.specs.Check.{Asked}
use Rattle.rules.specs.Exact.{exact_plan}
use Rattle.rules.specs.Doubled.{stretch}
use Rattle.rules.proofs.Exact.{longest-cong, exact-cong}
use Rattle.peel.specs.Standing.{Cells}
use Rattle.planner.specs.Planned.{shortage}
use Rattle.planner.proofs.Planned.{fits-room, lacks-room}
use Rattle.std.specs.Prelude.{Some, None}
use Rattle.std.specs.Option.{unwrap_or}
use Rattle.std.specs.declared.option.Option.{Option}
use Rattle.exact.specs.Laying.{Exceeds, Place}

module _ (E : Edition) (bounded : Bounded E) (N T : ℕ) (d w : List ℕ) (a : Asked E.ports N T d) (z : List ℕ) (copied : w ≡ d ++ z) where
  padded : (i j : ℕ) → i < N → j < N → cell N w i j ≡ cell N d i j
  unfolding cell
  padded i j li lj = ap (λ (l : List ℕ). get_or l (i * N + j) 0) copied
      ∙ get_or-append d z 0 (i * N + j) (omega (arith, a.size, digits_lt {q = i} {m = N} {r = j} {c = N} li lj))

  room : N * N ≤ length w
  room = omega (arith, a.size, length-append d z, ap length copied)

  wide : N ≤ E.width
  wide = omega (arith, a.few, bounded.ports)

  pub copied-cells : Cells N T w
  copied-cells = record {
    some = a.some;
    few = omega (arith, wide, bounded.width);
    room = room;
    longest-is = a.longest-is ∙ sym (longest-cong N (cell N w) (cell N d) padded);
    small = a.small;
  }

  pub copied-plan : exact_plan E.width N w ≡ exact_plan E.width N d
  copied-plan = exact-cong E.width N a.some wide w d room (le_of_eq (sym a.size)) padded

  -- all holds once as long: the plan itself
  pub place : (plan : List ℕ) → length (exact_plan E.width N d) ≤ length plan / (E.width + 4) → Place N T 1 E.width 0 (exact_plan E.width N w) plan
  place plan l = record {
    wide = wide;
    narrow = bounded.width;
    fits = omega (arith, a.small);
    room = omega (
      arith,
      ap (λ (p : List Record). length p * (E.width + 4)) copied-plan,
      div-mul-le_self (length plan) (E.width + 4),
      mul-le-mul_right (E.width + 4) l,
    );
  }

-- what exceeds the room, as a number: what a plan is short of
pub exceeds-shortage : (room need : ℕ) (r : Option ℕ) → Exceeds room need r → unwrap_or r 0 ≡ shortage room need
exceeds-shortage room need (Some k) e = e.1 ∙ lacks-room room need e.0
exceeds-shortage room need None e = fits-room room need e

pub stretch-once : (p : List Record) → map (stretch 1) p ≡ p
unfolding stretch
stretch-once [] = refl
stretch-once (r ∷ p) = ap₂ ◌∷◌ (λ i. record { hold = mul-one r.hold i; outputs = r.outputs }) (stretch-once p)
