-- The second edition serves, so its planners promise what the first edition's do, by the same theorems.
use mathlib.Core.List.{List}
use Prim.Native.Nat.{ℕ}
use Rattle.switch.specs.Outcome.{Outcome}
use Rattle.switch.specs.Editions.{second_edition}
use Rattle.promises.specs.Calls.{ExactPlanSecond, DoubledPlanSecond, EveryRotationSecond, QuickPlanSecond}
use Rattle.promises.specs.Exact.{PlansExactly}
use Rattle.promises.specs.Doubled.{tight, every, PlansDoubled}
use Rattle.promises.specs.Quick.{PlansQuickly}
use Rattle.promises.proofs.Planner.{second-serves}
use Rattle.promises.proofs.Exact.{exact-promise}
use Rattle.promises.proofs.Doubled.{doubled-promise}
use Rattle.promises.proofs.Quick.{quick-promise}

module _ (N : ℕ) (d buf : List ℕ) (r : Outcome) (after : List ℕ) where
  -- exact::exact_plan_second
  pub exact-plan-second-promise : ExactPlanSecond N d buf r after → PlansExactly second_edition N d buf r after
  exact-plan-second-promise g = exact-promise second_edition second-serves N d buf r after g.outcome g.bytes

  -- doubled::doubled_plan_second
  pub doubled-plan-second-promise : DoubledPlanSecond N d buf r after → PlansDoubled tight second_edition N d buf r after
  doubled-plan-second-promise g = doubled-promise tight second_edition second-serves N d buf r after g.outcome g.bytes

  -- doubled::doubled_plan_every_rotation_second
  pub every-rotation-second-promise : EveryRotationSecond N d buf r after → PlansDoubled every second_edition N d buf r after
  every-rotation-second-promise g = doubled-promise every second_edition second-serves N d buf r after g.outcome g.bytes

  -- quick::quick_plan_second
  pub quick-plan-second-promise : QuickPlanSecond N d buf r after → PlansQuickly second_edition N d buf r after
  quick-plan-second-promise g = quick-promise second_edition second-serves N d buf r after g.outcome g.bytes
