-- The contract gives the outcome and the buffer by a definition, so it determines both; and what is written reads back as the exact plan.
use Rattle.std.specs.Prelude.{Ok}
use mathlib.Core.Path.{◌≡◌, sym, ap, ◌∙◌, subst}
use mathlib.Core.List.{List}
use Prim.Native.Nat.{ℕ, ◌+◌, ◌*◌, ◌/◌, ◌≤◌}
use native.Mathlib.Omega.{arith}
use native.Mathlib.Nat.{le_of_eq}
use lib.ListN.{length, take}
use lib.Seq.{take_at}
use Rattle.switch.specs.Outcome.{Outcome}
use Rattle.switch.specs.declared.Edition.{Edition}
use Rattle.switch.specs.Editions.{Bounded}
use Rattle.switch.specs.Demand.{cell}
use Rattle.switch.specs.Plan.{Record}
use Rattle.switch.specs.Empty.{empty_slots}
use Rattle.switch.proofs.Answer.{determined}
use Rattle.demand.specs.Check.{check_demand, Asked}
use Rattle.demand.proofs.Check.{fine-asked}
use Rattle.rules.specs.Exact.{exact_plan}
use Rattle.rules.proofs.Exact.{exact-peels}
use Rattle.switch.specs.Sound.{Each, OfWidth}
use Rattle.records.specs.Bytes.{bytes, laid, plan_of}
use Rattle.records.proofs.Bytes.{bytes-size}
use Rattle.records.proofs.Round.{plan_of-bytes}
use Rattle.switch.specs.Result.{Result}
use Rattle.planner.specs.Planned.{planned}
use Rattle.planner.proofs.Planned.{planned-done, written-bytes}
use Rattle.exact.proofs.Turn.{stretched-width}
use Rattle.exact.proofs.Fitting.{stretch-once}

-- any two outcomes, and any two buffers afterwards, that satisfy the contract are equal
module _ (E : Edition) (N : ℕ) (d buf : List ℕ) where
  pub same_outcome : (r s : Outcome) → r ≡ (planned E N d (exact_plan E.width N d) buf).outcome → s ≡ (planned E N d (exact_plan E.width N d) buf).outcome → r ≡ s
  same_outcome r s p q = determined r s _ p q

  pub same_bytes : (l m : List ℕ) → l ≡ (planned E N d (exact_plan E.width N d) buf).bytes → m ≡ (planned E N d (exact_plan E.width N d) buf).bytes → l ≡ m
  same_bytes l m p q = determined l m _ p q

-- where nothing is refused, the records at the buffer's start are the exact plan
module _ (E : Edition) (bounded : Bounded E) (N T : ℕ) (d buf : List ℕ) (fine : check_demand E.ports N d ≡ Ok T)
    (room : length (exact_plan E.width N d) ≤ length buf / (E.width + 4)) where
  abbrev plan : List Record
  plan = exact_plan E.width N d

  a : Asked E.ports N T d
  a = fine-asked E.ports N T d fine

  widths : Each (OfWidth E.width) plan
  widths = subst (Each (OfWidth E.width)) (stretch-once plan)
      (stretched-width 1 (exact-peels E.width N a.some (omega (arith, a.few, bounded.ports)) d (le_of_eq (sym a.size))))

  written : (planned E N d plan buf).bytes ≡ laid buf 0 (bytes E.byte N plan)
  written = ap (λ (x : Result). x.bytes) (planned-done E N d plan buf T fine room) ∙ sym (written-bytes E N T (empty_slots N (cell N d) plan) plan buf)

  start : take (length plan * (E.width + 4)) (laid buf 0 (bytes E.byte N plan)) ≡ bytes E.byte N plan
  unfolding laid
  start = take_at (bytes E.byte N plan) _ _ (bytes-size E.byte N E.width widths)

  pub reads-back : plan_of E.width (take (length plan * (E.width + 4)) (planned E N d plan buf).bytes) ≡ plan
  reads-back = ap (λ (l : List ℕ). plan_of E.width (take (length plan * (E.width + 4)) l)) written ∙ ap (plan_of E.width) start
      ∙ plan_of-bytes E.byte N E.width widths
