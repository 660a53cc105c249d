-- The second edition keeps to the bounds of every edition.
use Rattle.switch.proofs.Editions.{second-bounded}
use Rattle.plans.proofs.open_second.Goals as goal

pub open-requires : goal.open-requires
open-requires c = rw c.second_edition.ensures second-bounded

pub returns : goal.returns
returns c = rw c.second_edition.ensures at c.«open».ensures
