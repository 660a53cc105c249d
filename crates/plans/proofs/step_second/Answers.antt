-- The second edition keeps to the bounds of every edition.
use Rattle.std.proofs.Common.{refl, lit<}
use Rattle.switch.proofs.Editions.{second-bounded}
use Rattle.plans.proofs.Read.{took}
use Rattle.plans.proofs.step_second.Goals as goal

pub step_for-requires : goal.step_for-requires
step_for-requires c = rw c.second_edition.ensures (lit< tt, (second-bounded, refl))

pub returns : goal.returns
returns c = took _ _ _ c.second_edition.ensures c.step_for.ensures
