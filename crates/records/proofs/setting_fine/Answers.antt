-- What is surely fine is fine, and else the outputs are told one by one.
use mathlib.Core.Path.{sym}
use Rattle.records.proofs.Fine.{told}
use Rattle.records.proofs.setting_fine.Goals as goal

pub returns-then-surely_fine : goal.returns-then-surely_fine
returns-then-surely_fine c = sym (told _ _ (c.surely_fine.ensures c.if-surely_fine.true))

pub returns : goal.returns
returns c = c.told_fine.ensures
