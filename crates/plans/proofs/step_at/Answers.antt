-- The first edition keeps to the bounds of every edition.
use Rattle.std.proofs.Common.{refl, lit<}
use Rattle.switch.proofs.Editions.{first-bounded}
use Rattle.plans.proofs.Read.{took}
use Rattle.plans.proofs.step_at.Goals as goal

pub step_for-requires : goal.step_for-requires
step_for-requires c = rw c.first_edition.ensures (lit< tt, (first-bounded, refl))

pub returns : goal.returns
returns c = took _ _ _ c.first_edition.ensures c.step_for.ensures
