-- The first edition keeps to the bounds of every edition.
use Rattle.switch.proofs.Editions.{first-bounded}
use Rattle.length.proofs.plan_length.Goals as goal

pub length_for-requires : goal.length_for-requires
length_for-requires c = rw c.first_edition.ensures first-bounded

pub returns : goal.returns
returns c = rw c.first_edition.ensures at c.length_for.ensures
