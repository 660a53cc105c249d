-- The first edition keeps to the bounds of every edition.
use Rattle.switch.proofs.Editions.{first-bounded}
use Rattle.plans.proofs.open_plan.Goals as goal

pub open-requires : goal.open-requires
open-requires c = rw c.first_edition.ensures first-bounded

pub returns : goal.returns
returns c = rw c.first_edition.ensures at c.«open».ensures
