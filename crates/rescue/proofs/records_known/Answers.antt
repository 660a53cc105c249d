-- What the plan is short of tells of the plan itself.
use mathlib.Core.Path.{ap, ◌∙◌}
use Prim.Native.Nat.{ℕ}
use native.Mathlib.Omega.{arith}
use lib.ListN.{length}
use Rattle.rules.specs.Exact.{exact_plan}
use Rattle.planner.specs.Planned.{shortage}
use Rattle.exact.proofs.Fitting.{exceeds-shortage}
use Rattle.rescue.proofs.Order.{known}
use Rattle.rescue.proofs.Taking.{need-small}
use Rattle.rescue.proofs.records_known.Goals as goal

pub overflow_add-result : goal.overflow_add-result
overflow_add-result g c =
    let told = c.unwrap_or.ensures ∙ exceeds-shortage _ _ _ (c.short_of.ensures 128 c.requires.1.few (omega arith)) in
    omega (arith, c.requires.0, need-small _ _ _ _ _ c.requires.1 told)

pub returns : goal.returns
returns g c =
    λ W wide thin. known c.args.most c.args.kept (length (exact_plan W c.args.n c.args.left.now)) _
    (c.unwrap_or.ensures ∙ exceeds-shortage _ _ _ (c.short_of.ensures W wide thin)
    ∙ ap (λ (x : ℕ). shortage x (length (exact_plan W c.args.n c.args.left.now))) c.saturating_sub.ensures)
