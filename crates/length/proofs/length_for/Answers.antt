-- A plan that is not opened is refused for that, and else the pass over its records answers.
use mathlib.Core.Path.{sym, ◌∙◌}
use Rattle.std.proofs.lemmas.Result.{err_from_is_err_and}
use Rattle.length.specs.Length.{plan_length}
use Rattle.plans.proofs.Read.{opened-records}
use Rattle.plans.proofs.Reading.{reading-refused, readable}
use Rattle.length.proofs.Length.{length-done}
use Rattle.length.proofs.length_for.Goals as goal

pub returns-in_err-count : goal.returns-in_err-count
unfolding plan_length
returns-in_err-count c =
    let p = err_from_is_err_and c.from_residual.result c.from_residual.ensures.1 in
    rw (p.1, p.2) (reading-refused _ _ _ _ (sym c.in_err-count.was ∙ c.«open».ensures))

pub charge_plan-requires : goal.charge_plan-requires
charge_plan-requires c =
    let o = sym c.in_ok-count.was ∙ c.«open».ensures in
    (readable _ _ _ _ c.requires o, opened-records _ _ _ _ o)

pub returns : goal.returns
returns c = length-done _ _ _ _ (sym c.in_ok-count.was ∙ c.«open».ensures) _ c.charge_plan.ensures
