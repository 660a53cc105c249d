-- The second edition keeps to the bounds of every edition, and has 128 × 128 cells.
use mathlib.Core.Path.{sym, ap}
use native.Mathlib.Omega.{arith}
use Rattle.switch.specs.declared.Edition.{Edition}
use Rattle.switch.proofs.Editions.{second-bounded}
use Rattle.switch.proofs.Result.{gives_as}
use Rattle.rules.specs.Exact.{exact_plan}
use Rattle.planner.specs.Planned.{planned}
use Rattle.exact.proofs.exact_plan_second.Goals as goal

pub plan_for-requires : goal.plan_for-requires
plan_for-requires c = rw c.second_edition.ensures (second-bounded, omega arith, omega arith)

pub returns : goal.returns
returns c =
    let a = c.args in
    let q = c.second_edition.ensures in
    gives_as (ap (λ (e : Edition). planned e a.n a.cells.now (exact_plan e.width a.n a.cells.now) a.plan.now) (sym q))
    c.plan_for.ensures
