-- What can be moved to the first edition keeps to the bounds of every edition, and so does the first.
use native.Mathlib.Omega.{arith}
use Rattle.switch.proofs.Editions.{first-bounded}
use Rattle.moving.proofs.Answer.{movable-bounded}
use Rattle.moving.proofs.to_first.Goals as goal

pub move_for-requires : goal.move_for-requires
move_for-requires c = rw (c.movable_edition.ensures, c.first_edition.ensures) (movable-bounded, first-bounded, omega arith)

pub returns : goal.returns
returns c = rw (c.movable_edition.ensures, c.first_edition.ensures) at c.move_for.ensures
