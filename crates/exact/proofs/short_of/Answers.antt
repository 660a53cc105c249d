-- The plan has no more records than the room that is promised beforehand, so that room needs no count.
use native.Mathlib.Omega.{arith}
use Rattle.rules.proofs.Exact.{exact-records}
use Rattle.room.specs.Room.{exact_room}
use Rattle.exact.proofs.short_of.Goals as goal

pub exact_records-requires : goal.exact_records-requires
exact_records-requires c = (c.requires.few, c.requires.small)

pub returns-then-exact_records-room : goal.returns-then-exact_records-room
unfolding exact_room
returns-then-exact_records-room c =
    let p = c.requires in
    let a = c.args in
    λ W wide narrow. omega (arith, exact-records W a.n p.some wide a.work.now p.room, p.longest-is, c.exact_records.ensures, c.if-exact_records-room.true)

pub returns-then-room-need : goal.returns-then-room-need
returns-then-room-need c = let e = c.count-need.ensures in λ W wide narrow. (omega (arith, e W wide narrow, c.if-room-need.true), e W wide narrow)

pub returns : goal.returns
returns c = let e = c.count-need.ensures in λ W wide narrow. omega (arith, e W wide narrow, c.if-room-need.false)
