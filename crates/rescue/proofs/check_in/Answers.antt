-- A demand that is not fine refuses by itself; else the records that come in are counted.
use mathlib.Core.Path.{sym, ◌∙◌}
use native.Mathlib.Omega.{arith}
use Rattle.std.proofs.lemmas.Result.{err_from_is_err_and}
use Rattle.rescue_rule.proofs.List.{records-few}
use Rattle.rescue.proofs.Order.{in-faulty, in-many, in-fine}
use Rattle.rescue.proofs.check_in.Goals as goal

pub returns-in_err-longest : goal.returns-in_err-longest
returns-in_err-longest c =
    let p = err_from_is_err_and c.from_residual.result c.from_residual.ensures.1 in
    rw (p.1, p.2) (in-faulty _ _ _ _ (sym c.in_err-longest.was ∙ c.check_demand.ensures))

pub overflow_add-records-2 : goal.overflow_add-records-2
overflow_add-records-2 c =
    omega (arith, c.torn.ensures, records-few c.args.e.width c.args.damaged.now)

pub returns-then-e-records : goal.returns-then-e-records
returns-then-e-records c =
    in-many _ _ _ _ (sym c.in_ok-longest.was ∙ c.check_demand.ensures) (omega (arith, c.if-e-records.true, c.torn.ensures))

pub returns : goal.returns
returns c =
    in-fine _ _ _ _ (sym c.in_ok-longest.was ∙ c.check_demand.ensures) (omega (arith, c.if-e-records.false, c.torn.ensures))
