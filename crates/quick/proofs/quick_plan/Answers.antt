-- The first edition keeps to the bounds of every edition, and there is room for 64 ports.
use mathlib.Core.Path.{refl, sym, ap}
use native.Mathlib.Omega.{arith}
use Rattle.switch.specs.declared.Edition.{Edition}
use Rattle.switch.proofs.Editions.{first-bounded}
use Rattle.switch.proofs.Result.{gives_as}
use Rattle.rules.specs.Quick.{quick_plan}
use Rattle.planner.specs.Planned.{planned_up_to}
use Rattle.quick.proofs.quick_plan.Goals as goal

pub plan_for-requires : goal.plan_for-requires
plan_for-requires c = rw c.first_edition.ensures
    (record { bounded = first-bounded; squared = omega arith; few = omega arith; each = omega arith; wide = refl })

pub returns : goal.returns
returns c =
    let a = c.args in
    let q = c.first_edition.ensures in
    gives_as (ap (λ (e : Edition). planned_up_to 1024 e a.n a.cells.now (quick_plan e.width a.n a.cells.now) a.plan.now) (sym q))
    c.plan_for.ensures
