-- What the exact call promises is worth what its rule is, since the records that it writes read back as the rule's plan.
use mathlib.Core.Path.{◌≡◌}
use mathlib.Core.List.{List}
use Prim.Native.Nat.{ℕ}
use native.Mathlib.Omega.{arith}
use Rattle.switch.specs.Outcome.{Outcome}
use Rattle.rules.specs.Exact.{exact_plan, Exact}
use Rattle.rules.proofs.Exact.{exact}
use Rattle.rules.proofs.Sound.{exact-sound}
use Rattle.switch.specs.declared.Edition.{Edition}
use Rattle.switch.specs.Editions.{first_edition}
use Rattle.planner.specs.Planned.{planned}
use Rattle.promises.specs.Calls.{ExactPlan}
use Rattle.promises.specs.Planner.{Serves, Fair}
use Rattle.promises.specs.Exact.{PlansExactly}
use Rattle.promises.proofs.Planner.{Ready, planned-promise, first-serves, fair-top, fair-cells, fair-square}

module _ (E : Edition) (serves : Serves E) (N : ℕ) (d : List ℕ) where
  exact-ready : Fair E 65535 N d → Ready E N d (exact_plan E.width N d) (Exact N d)
  exact-ready fair =
      let worth = exact E.width N fair.some (fair-top E serves fair) d (fair-cells E serves fair) in record {
        few = omega (arith, worth.few, fair-square E serves fair);
        sound = exact-sound E.width N (fair-top E serves fair) fair.some d (fair-cells E serves fair);
        covers = worth.covers;
        worth = worth;
      }

  pub exact-promise : (buf : List ℕ) (r : Outcome) (after : List ℕ)
      → r ≡ (planned E N d (exact_plan E.width N d) buf).outcome
      → after ≡ (planned E N d (exact_plan E.width N d) buf).bytes → PlansExactly E N d buf r after
  exact-promise buf = planned-promise E serves N d (exact_plan E.width N d) (Exact N d) buf exact-ready

-- any outcome and any buffer afterwards that satisfy the contract of exact::exact_plan
pub exact-plan-promise : (N : ℕ) (d buf : List ℕ) (r : Outcome) (after : List ℕ) → ExactPlan N d buf r after → PlansExactly first_edition N d buf r after
exact-plan-promise N d buf r after g = exact-promise first_edition first-serves N d buf r after g.outcome g.bytes
