-- 2T - 1, which is 0 where T is 0.
use native.Mathlib.Omega.{arith}
use Rattle.room.specs.Room.{quick_room}
use Rattle.room.proofs.quick_records.Goals as goal

pub returns : goal.returns
unfolding quick_room
returns c = omega arith
