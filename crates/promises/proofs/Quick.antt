-- What the quick call promises is worth what its rule is, since the records that it writes read back as the rule's plan.
use mathlib.Core.Path.{◌≡◌}
use mathlib.Core.List.{List}
use Prim.Native.Nat.{ℕ, ◌≤◌}
use native.Mathlib.Omega.{arith}
use Rattle.switch.specs.Outcome.{Outcome}
use Rattle.rules.specs.Quick.{quick_plan, Quick}
use Rattle.rules.proofs.Quick.{quick}
use Rattle.rules.proofs.Sound.{quick-sound}
use Rattle.switch.specs.declared.Edition.{Edition}
use Rattle.switch.specs.Editions.{first_edition}
use Rattle.planner.specs.Planned.{planned_up_to}
use Rattle.promises.specs.Calls.{QuickPlan}
use Rattle.promises.specs.Planner.{Serves, Fair}
use Rattle.promises.specs.Quick.{PlansQuickly}
use Rattle.promises.proofs.Fair.{fair-longest}
use Rattle.promises.proofs.Planner.{Ready, limited-promise, first-serves, fair-top, fair-small, fair-square}

module _ (E : Edition) (serves : Serves E) (N : ℕ) (d : List ℕ) where
  quick-ready : Fair E 1024 N d → Ready E N d (quick_plan E.width N d) (Quick N d)
  quick-ready fair =
      let top = fair-top E serves fair in
      let small : N ≤ 255 = omega (arith, fair-small E serves fair) in
      let worth = quick E.width N fair.some top small d in record {
        few = omega (arith, worth.most, fair-longest E N d fair, fair-square E serves fair);
        sound = quick-sound E.width N top fair.some small d;
        covers = worth.covers;
        worth = worth;
      }

  pub quick-promise : (buf : List ℕ) (r : Outcome) (after : List ℕ)
      → r ≡ (planned_up_to 1024 E N d (quick_plan E.width N d) buf).outcome
      → after ≡ (planned_up_to 1024 E N d (quick_plan E.width N d) buf).bytes → PlansQuickly E N d buf r after
  quick-promise buf = limited-promise E serves 1024 (omega arith) N d (quick_plan E.width N d) (Quick N d) buf quick-ready

-- any outcome and any buffer afterwards that satisfy the contract of quick::quick_plan
pub quick-plan-promise : (N : ℕ) (d buf : List ℕ) (r : Outcome) (after : List ℕ) → QuickPlan N d buf r after → PlansQuickly first_edition N d buf r after
quick-plan-promise N d buf r after g = quick-promise first_edition first-serves N d buf r after g.outcome g.bytes
