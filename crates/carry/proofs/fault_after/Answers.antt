-- Each return is the case of the definition whose tests led there.
use mathlib.Core.Path.{sym, ◌∙◌}
use Rattle.std.proofs.lemmas.Result.{err_from_is_err_and}
use Rattle.carry.proofs.Carry.{first-over, asked-refused, asked-done}
use Rattle.carry.proofs.fault_after.Goals as goal

pub returns-then-records-first : goal.returns-then-records-first
returns-then-records-first c = rw c.about.ensures (first-over _ _ _ _ _ c.if-records-first.true)

pub returns-in_err-lines_of : goal.returns-in_err-lines_of
returns-in_err-lines_of c =
    let p = err_from_is_err_and c.from_residual.result c.from_residual.ensures.1 in
    rw (p.1, p.2) (asked-refused _ _ _ _ _ c.if-records-first.false _ (sym c.in_err-lines_of.was ∙ c.lines_of.ensures))

pub returns : goal.returns
returns c =
    c.lines_of-2.ensures ∙ asked-done _ _ _ _ _ c.if-records-first.false (sym c.in_ok-lines_of.was ∙ c.lines_of.ensures)
