-- The smaller of two numbers.
use native.Mathlib.Omega.{arith}
use native.Mathlib.Nat.{mul-le-mul}
use Rattle.room.specs.Room.{exact_room}
use Rattle.room.proofs.Room.{twice-small}
use Rattle.room.proofs.exact_records.Goals as goal

pub overflow_mul-most : goal.overflow_mul-most
overflow_mul-most c = let f = c.requires.0 in omega (arith, mul-le-mul f f)

pub overflow_add-most : goal.overflow_add-most
overflow_add-most c = let f = c.requires.0 in omega (arith, mul-le-mul f f)

pub overflow_sub-most : goal.overflow_sub-most
overflow_sub-most c = twice-small _

pub returns : goal.returns
unfolding exact_room
returns c = omega (arith, c.min.ensures)
