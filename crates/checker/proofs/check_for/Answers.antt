-- A demand that is not fine refuses by itself.
use mathlib.Core.Path.{sym, ◌∙◌}
use Rattle.std.proofs.lemmas.Result.{err_from_is_err_and}
use Rattle.demand.proofs.Check.{fine-asked}
use Rattle.checker.proofs.Check.{check-faulty, check-fine}
use Rattle.checker.proofs.check_for.Goals as goal

pub check_records-requires : goal.check_records-requires
check_records-requires g c = (c.requires.0, c.requires.1, c.requires.2, (fine-asked _ _ _ _ (sym c.check_demand.ensures ∙ c.in_ok-longest.was)).size)

pub returns-in_err-longest : goal.returns-in_err-longest
returns-in_err-longest g c =
    let p = err_from_is_err_and c.from_residual.result c.from_residual.ensures.1 in
    rw (p.1, p.2) (check-faulty _ _ _ _ (sym c.in_err-longest.was ∙ c.check_demand.ensures))

pub returns : goal.returns
returns g c = c.check_records.ensures ∙ check-fine _ _ _ _ (sym c.in_ok-longest.was ∙ c.check_demand.ensures)
