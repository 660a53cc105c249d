-- The room is known before the first byte is written: a shortage is code 5, and else the plan is laid.
use mathlib.Core.Path.{sym}
use native.Mathlib.Nat.{le_of_eq}
use native.Mathlib.Omega.{arith}
use Rattle.exact.proofs.Fitting.{copied-cells, place}
use Rattle.exact.proofs.Outcome.{asked, short, enough, refuses-room, writes-plan}
use Rattle.exact.proofs.lay_or_refuse.Goals as goal

pub copy-requires : goal.copy-requires
copy-requires c = let p = c.requires in omega (arith, (asked _ p.1 _ _ _ p.0).size)

pub short_of-requires : goal.short_of-requires
short_of-requires c =
    let p = c.requires in
    copied-cells _ p.1 _ _ _ _ (asked _ p.1 _ _ _ p.0) _ c.copy.ensures

pub returns-in-Some : goal.returns-in-Some
returns-in-Some c =
    let p = c.requires in
    refuses-room _ p.1 _ _ _ p.0 _ _ _ c.copy.ensures _ (rw c.in-Some.is at c.short_of.ensures)

pub copy-requires-2 : goal.copy-requires-2
copy-requires-2 c =
    let p = c.requires in
    omega (arith, (asked _ p.1 _ _ _ p.0).size, c.short_of.auto, c.copy.auto)

pub lay-records-requires : goal.lay-records-requires
lay-records-requires c =
    let p = c.requires in
    let a = asked _ p.1 _ _ _ p.0 in
    let k = c.copy-2.ensures in
    let e = enough _ p.1 _ _ _ p.0 c.args.plan.now _ _ c.copy.ensures (rw c.in_default.is at c.short_of.ensures) in
    (copied-cells _ p.1 _ _ _ _ a _ k, place _ p.1 _ _ _ _ a _ k c.args.plan.now e)

pub empty_slots-requires : goal.empty_slots-requires
empty_slots-requires c =
    let p = c.requires in
    let a = asked _ p.1 _ _ _ p.0 in
    (short _ p.1 _ _ _ p.0, le_of_eq (sym a.longest-is), omega (arith, a.small))

pub returns : goal.returns
returns c =
    let p = c.requires in
    let l = c.lay-records.ensures in
    writes-plan _ p.1 _ _ _ p.0 _ _ _ c.copy.ensures (enough _ p.1 _ _ _ p.0 c.args.plan.now _ _ c.copy.ensures (rw c.in_default.is at c.short_of.ensures))
    _ _ c.copy-2.ensures _ l.0 _ l.1 _ c.empty_slots.ensures
