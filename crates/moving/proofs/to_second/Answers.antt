-- Both editions keep to the bounds of every edition, and the second has an output for each port of the first.
use native.Mathlib.Omega.{arith}
use Rattle.switch.proofs.Editions.{first-bounded, second-bounded}
use Rattle.moving.proofs.to_second.Goals as goal

pub move_for-requires : goal.move_for-requires
move_for-requires c = rw (c.first_edition.ensures, c.second_edition.ensures) (first-bounded, second-bounded, omega arith)

pub returns : goal.returns
returns c = rw (c.first_edition.ensures, c.second_edition.ensures) at c.move_for.ensures
