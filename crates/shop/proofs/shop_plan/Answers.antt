-- What the demand is refused for by itself comes first, and then what is left to the room.
use mathlib.Core.Path.{sym, ◌∙◌}
use native.Mathlib.Omega.{arith}
use Rattle.std.proofs.Common.{rules}
use Rattle.demand.proofs.Check.{fine-asked}
use Rattle.shop.proofs.Columns.{gives-faulty, gives-fine}
use Rattle.shop.proofs.shop_plan.Goals as goal

pub plan_checked-requires : goal.plan_checked-requires
plan_checked-requires c =
    let a = c.args in
    let q = fine-asked 64 a.n c.in_ok-check_demand.field-0 a.cells.now (sym c.check_demand.ensures ∙ c.in_ok-check_demand.was) in
    (q.few, q.size, omega (arith, q.longest-is, q.small), omega (arith, c.from.ensures))

pub returns-in_err-check_demand : goal.returns-in_err-check_demand
returns-in_err-check_demand c =
    let a = c.args in
    let g = gives-faulty a.n a.d a.cells.now a.tasks.now c.in_err-check_demand.field-0.0 (sym c.check_demand.ensures ∙ c.in_err-check_demand.was) in
    let f = c.from_residual.ensures in
    search rules

pub returns : goal.returns
returns c =
    let a = c.args in
    gives-fine a.n a.d a.cells.now a.tasks.now _ (sym c.check_demand.ensures ∙ c.in_ok-check_demand.was) _ _ (rw c.from.ensures at c.plan_checked.ensures)
