-- What the doubled calls promise is worth what their rules are, both by the one law of doubled plans.
use mathlib.Core.Path.{◌≡◌}
use mathlib.Core.List.{List}
use Prim.Native.Nat.{ℕ, ◌*◌, ◌<◌, ◌≤◌}
use native.Mathlib.Omega.{arith}
use lib.ListN.{length}
use Rattle.switch.specs.Outcome.{Outcome}
use Rattle.switch.specs.Sound.{Each, Sound}
use Rattle.rules.specs.Doubled.{Doubled}
use Rattle.rules.proofs.Rotate.{doubled}
use Rattle.rules.proofs.Tight.{tight-doubled}
use Rattle.rules.proofs.Sound.{doubled-sound, tight-sound}
use Rattle.switch.specs.declared.Edition.{Edition}
use Rattle.switch.specs.Editions.{first_edition}
use Rattle.planner.specs.Planned.{planned}
use Rattle.promises.specs.Calls.{DoubledPlan, EveryRotation}
use Rattle.promises.specs.Planner.{Serves, Fair}
use Rattle.promises.specs.Doubled.{Rule, tight, every, plan_by, PlansDoubled}
use Rattle.promises.proofs.Planner.{Ready, planned-promise, first-serves, fair-top, fair-small, fair-cells, fair-square}

-- both bounds, by either rule
pub both-doubled : (rule : Rule) (W N : ℕ) → 0 < N → N ≤ W → (d : List ℕ) → N * N ≤ length d → Doubled N d (plan_by rule W N d)
both-doubled tight = tight-doubled
both-doubled every = doubled

both-sound : (rule : Rule) (W N : ℕ) → N ≤ W → 0 < N → (d : List ℕ) → N * N ≤ length d → Each (Sound W N) (plan_by rule W N d)
both-sound tight = tight-sound
both-sound every = doubled-sound

module _ (rule : Rule) (E : Edition) (serves : Serves E) (N : ℕ) (d : List ℕ) where
  doubled-ready : Fair E 65535 N d → Ready E N d (plan_by rule E.width N d) (Doubled N d)
  doubled-ready fair =
      let worth = both-doubled rule E.width N fair.some (fair-top E serves fair) d (fair-cells E serves fair) in record {
        few = omega (arith, worth.few, fair-small E serves fair, fair-square E serves fair);
        sound = both-sound rule E.width N (fair-top E serves fair) fair.some d (fair-cells E serves fair);
        covers = worth.covers;
        worth = worth;
      }

  pub doubled-promise : (buf : List ℕ) (r : Outcome) (after : List ℕ)
      → r ≡ (planned E N d (plan_by rule E.width N d) buf).outcome
      → after ≡ (planned E N d (plan_by rule E.width N d) buf).bytes → PlansDoubled rule E N d buf r after
  doubled-promise buf = planned-promise E serves N d (plan_by rule E.width N d) (Doubled N d) buf doubled-ready

-- any outcome and any buffer afterwards that satisfy the contract of doubled::doubled_plan
pub doubled-plan-promise : (N : ℕ) (d buf : List ℕ) (r : Outcome) (after : List ℕ) → DoubledPlan N d buf r after
    → PlansDoubled tight first_edition N d buf r after
doubled-plan-promise N d buf r after g = doubled-promise tight first_edition first-serves N d buf r after g.outcome g.bytes

-- and of doubled::doubled_plan_every_rotation
pub every-rotation-promise : (N : ℕ) (d buf : List ℕ) (r : Outcome) (after : List ℕ) → EveryRotation N d buf r after
    → PlansDoubled every first_edition N d buf r after
every-rotation-promise N d buf r after g = doubled-promise every first_edition first-serves N d buf r after g.outcome g.bytes
