-- A plan that opens has its records inside its bytes; each return is the case of the definition whose tests led there.
use mathlib.Core.Path.{sym, ◌∙◌}
use Rattle.std.proofs.lemmas.Result.{err_from_is_err_and}
use Rattle.switch.specs.Plan.{total}
use Rattle.plans.proofs.Reading.{checking-stopped, checking-whole, passed-all, readable}
use Rattle.plans.proofs.Read.{check-refused}
use Rattle.plans.proofs.check_plan.Goals as goal

pub returns-in_err-records : goal.returns-in_err-records
returns-in_err-records c =
    let p = err_from_is_err_and c.from_residual.result c.from_residual.ensures.1 in
    rw (p.1, p.2) (check-refused _ _ _ (sym c.in_err-records.was ∙ c.«open».ensures))

pub judge-requires : goal.judge-requires
judge-requires c = readable _ _ _ _ c.requires (sym c.in_ok-records.was ∙ c.«open».ensures)

pub returns-in_err-total : goal.returns-in_err-total
returns-in_err-total c =
    let p = err_from_is_err_and c.from_residual-in_err-total.result c.from_residual-in_err-total.ensures.1 in
    rw (p.1, p.2) (checking-stopped _ _ _ total (sym c.in_ok-records.was ∙ c.«open».ensures) (sym c.in_err-total.was ∙ c.judge.ensures))

pub returns : goal.returns
returns c =
    let o = sym c.in_ok-records.was ∙ c.«open».ensures in
    let j = sym c.in_ok-total.was ∙ c.judge.ensures in
    rw (c.counted.ensures, (passed-all _ _ _ total o j).0) (checking-whole _ _ _ total o j)
