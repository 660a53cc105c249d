-- A plan that is refused by itself changes nothing, and where there is room for its records they are laid.
use mathlib.Core.Path.{refl, sym, ◌∙◌}
use Rattle.std.proofs.lemmas.Result.{err_from_is_err_and}
use native.Mathlib.Omega.{arith}
use Rattle.moving.proofs.Answer.{answers-refused, answers-short, can-move, answers-done}
use Rattle.moving.proofs.move_for.Goals as goal

pub returns-in_err-counts : goal.returns-in_err-counts
returns-in_err-counts c =
    let a = c.args in
    let p = err_from_is_err_and c.from_residual.result c.from_residual.ensures.1 in
    rw (p.1, p.2) (answers-refused a.from a.to a.n a.plan.now a.moved.now (sym c.in_err-counts.was ∙ c.check_plan.ensures) refl)

pub overflow_add-to : goal.overflow_add-to
overflow_add-to c = omega (arith, c.requires.1.width)

pub returns-then-moved-to : goal.returns-then-moved-to
returns-then-moved-to c =
    let a = c.args in
    answers-short a.from a.to a.n a.plan.now a.moved.now (sym c.in_ok-counts.was ∙ c.check_plan.ensures) c.if-moved-to.true

pub move_records-requires : goal.move_records-requires
move_records-requires c =
    let a = c.args in
    let p = c.requires in
    can-move a.from a.to a.n a.plan.now a.moved.now (sym c.in_ok-counts.was ∙ c.check_plan.ensures) p.0 c.if-moved-to.false p.1 p.2

pub returns : goal.returns
returns c =
    let a = c.args in
    answers-done a.from a.to a.n a.plan.now a.moved.now (sym c.in_ok-counts.was ∙ c.check_plan.ensures) c.requires.0 c.if-moved-to.false
    c.move_records.ensures
