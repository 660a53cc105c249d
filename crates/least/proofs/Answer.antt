-- The call's answer case by case: the demand's own fault, a limit of 0, and else the larger of T and the turns that the busiest wavelength takes.
use Rattle.std.specs.Prelude.{Err, Ok}
use mathlib.Core.Path.{◌≡◌, ap, ap₂, ◌∙◌}
use mathlib.Core.Logic.{dite}
use mathlib.Core.List.{List}
use Prim.Native.Nat.{ℕ, ◌+◌, ◌*◌, ◌-◌, ◌/◌, ◌%◌, ◌<◌, min, max}
use native.Mathlib.Nat.{div-add-mod, mul-add-div, div-eq_of_lt, mod-lt}
use native.Mathlib.Decide.{ℕ_discrete}
use native.Mathlib.Omega.{arith}
use borrow.Author.Tests.{lt-ltb, le-ltb}
use Rattle.switch.specs.Outcome.{Outcome}
use Rattle.switch.specs.declared.Refusal.{Refusal}
use Rattle.switch.specs.declared.Refusal.TheVariants.{Limit}
use Rattle.switch.specs.Answer.{plan_counts}
use Rattle.switch.specs.Demand.{cell}
use Rattle.switch.specs.Editions.{first_edition}
use Rattle.demand.specs.Check.{check_demand}
use Rattle.demand.proofs.Check.{fine-asked}
use Rattle.quiet_rule.specs.Limit.{busiest, least_within}
use Rattle.least.specs.Least.{least_of}

module _ (N : ℕ) (d : List ℕ) (L : ℕ) where
  -- codes 1, 2 and 3
  pub least-fault : (f : Refusal) → check_demand 64 N d ≡ Err f → Err f ≡ least_of first_edition N d L
  unfolding least_of
  least-fault f c = rw c

  module _ (T : ℕ) (fine : check_demand 64 N d ≡ Ok T) where
    -- code 17
    pub least-limit : L ≡ 0 → Err Limit ≡ least_of first_edition N d L
    unfolding least_of
    least-limit z = rw (fine, le-ltb 0 L (omega arith))

    pub least-told : 0 < L → (b s m : ℕ) → b ≡ busiest N (cell N d) → s ≡ (b + (L - 1)) / L → m ≡ max T s → Ok (plan_counts 0 T m) ≡ least_of first_edition N d L
    unfolding least_of least_within
    least-told l b s m eb es em =
        rw (fine, lt-ltb 0 L l)
        (ap {B = Outcome} (λ (x : ℕ). Ok (plan_counts 0 T x)) (em ∙ ap₂ max (fine-asked 64 N T d fine).longest-is (es ∙ ap (λ (x : ℕ). (x + (L - 1)) / L) eb)))

-- a division that rounds up, as a sum that cannot wrap
pub rounded_up : (sum by : ℕ) → 0 < by → sum / by + min 1 (sum % by) ≡ (sum + (by - 1)) / by
rounded_up sum by some = dite (ℕ_discrete (sum % by) 0) (λ z. turns 0 (by - 1) (omega arith) (omega (arith, z, whole)) (omega (arith, z))) (λ n. turns 1 (sum % by - 1) (omega (arith, n, part)) (omega (arith, n, whole)) (omega (arith, n)))
  where
    whole : by * (sum / by) + sum % by ≡ sum
    whole = div-add-mod sum by

    part : sum % by < by
    part = mod-lt sum some

    turns : (k r : ℕ) → r < by → sum + (by - 1) ≡ by * (sum / by + k) + r → min 1 (sum % by) ≡ k → sum / by + min 1 (sum % by) ≡ (sum + (by - 1)) / by
    turns k r l e m = omega (arith, m, ap (λ (x : ℕ). x / by) e, mul-add-div some (sum / by + k) r, div-eq_of_lt l)
