-- The record is laid in one piece.
use native.Mathlib.Omega.{arith}
use Rattle.tasks.proofs.Laid.{task-laid}
use Rattle.tasks.proofs.put_task.Goals as goal

pub returns : goal.returns
returns c =
    let a = c.args in
    rw (c.copy_from_slice.ensures.after, c.to_le_bytes.ensures, c.to_le_bytes-2.ensures) (task-laid a.tasks.now a.at a.i.0 a.j.0 a.start a.end (omega arith) (omega arith))
