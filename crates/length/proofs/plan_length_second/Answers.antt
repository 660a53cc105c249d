-- The second edition keeps to the bounds of every edition.
use Rattle.switch.proofs.Editions.{second-bounded}
use Rattle.length.proofs.plan_length_second.Goals as goal

pub length_for-requires : goal.length_for-requires
length_for-requires c = rw c.second_edition.ensures second-bounded

pub returns : goal.returns
returns c = rw c.second_edition.ensures at c.length_for.ensures
