-- The plan by the old rule, which is the one that stood before, in the second edition.
use mathlib.Core.Path.{sym, ap}
use native.Mathlib.Omega.{arith}
use Rattle.switch.specs.declared.Edition.{Edition}
use Rattle.switch.proofs.Editions.{second-bounded}
use Rattle.switch.proofs.Result.{gives_as}
use Rattle.rules.specs.Doubled.{every_rotation_plan}
use Rattle.planner.specs.Planned.{planned}
use Rattle.turns.specs.declared.Rule.TheVariants.{Every}
use Rattle.turns.specs.declared.Turning.TheVariants.{Forward}
use Rattle.turns.specs.Second.{doubled_rule}
use Rattle.doubled.proofs.doubled_plan_every_rotation_second.Goals as goal

pub plan_for-requires : goal.plan_for-requires
plan_for-requires c = rw c.second_edition.ensures (second-bounded, omega arith, omega arith, omega arith, omega arith)

pub returns : goal.returns
unfolding every_rotation_plan
returns c =
    let a = c.args in
    let q = c.second_edition.ensures in
    gives_as (ap (λ (e : Edition). planned e a.n a.cells.now (doubled_rule Every Forward e.width a.n a.cells.now) a.plan.now) (sym q))
    c.plan_for.ensures
