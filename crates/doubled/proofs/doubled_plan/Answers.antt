-- The plan by the tight rule, which is the default's, in the first edition.
use mathlib.Core.Path.{sym, ap}
use native.Mathlib.Omega.{arith}
use Rattle.switch.specs.declared.Edition.{Edition}
use Rattle.switch.proofs.Editions.{first-bounded}
use Rattle.switch.proofs.Result.{gives_as}
use Rattle.rules.specs.Doubled.{doubled_plan}
use Rattle.planner.specs.Planned.{planned}
use Rattle.turns.specs.declared.Rule.TheVariants.{Tight}
use Rattle.turns.specs.declared.Turning.TheVariants.{Forward}
use Rattle.turns.specs.Second.{doubled_rule}
use Rattle.doubled.proofs.doubled_plan.Goals as goal

pub plan_for-requires : goal.plan_for-requires
plan_for-requires c = rw c.first_edition.ensures (first-bounded, omega arith, omega arith, omega arith, omega arith)

pub returns : goal.returns
unfolding doubled_plan
returns c =
    let a = c.args in
    let q = c.first_edition.ensures in
    gives_as (ap (λ (e : Edition). planned e a.n a.cells.now (doubled_rule Tight Forward e.width a.n a.cells.now) a.plan.now) (sym q))
    c.plan_for.ensures
