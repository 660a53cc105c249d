-- The first part has the records that the exact planner says, so the rotations go right behind it.
use mathlib.Core.Path.{◌∙◌}
use native.Mathlib.Omega.{arith}
use Rattle.doubled.proofs.Divided.{first-place, behind-room, behind-laid}
use Rattle.doubled.proofs.lay_parts.Goals as goal

pub lay-records-requires : goal.lay-records-requires
lay-records-requires c =
    (c.requires.0, first-place _ _ _ _ _ c.args.holds.now c.requires.0 _ c.requires.2)

pub overflow_mul-records : goal.overflow_mul-records
overflow_mul-records c =
    let l = c.lay-records.ensures in
    omega (arith, behind-room _ _ _ _ _ c.args.holds.now c.requires.0 _ c.requires.2 c.args.e.byte l.1 l.0)

pub lay-requires : goal.lay-requires
lay-requires c =
    let l = c.lay-records.ensures in
    (c.requires.1, c.requires.2.wide, c.requires.2.narrow, behind-room _ _ _ _ _ c.args.holds.now c.requires.0 _ c.requires.2 c.args.e.byte l.1 l.0)

pub returns : goal.returns
returns c =
    let l = c.lay-records.ensures in
    (l.0, c.lay.ensures ∙ behind-laid _ _ _ _ _ c.args.holds.now c.requires.0 _ c.requires.2 c.args.e.byte l.1 l.0)
