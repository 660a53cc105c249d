-- Nothing is laid where the record is not well formed, and else its hold and outputs, which are its bytes.
use mathlib.Core.Path.{ap, ◌∙◌}
use native.Mathlib.Omega.{arith}
use Rattle.records.specs.Bytes.{laid}
use Rattle.rescue_rule.proofs.Read.{ports-fit, read-size, read-room, part-size}
use Rattle.rescue.proofs.Laying.{lay-skip, lay-is, lay-size, read-long}
use Rattle.std.proofs.Common.{ap, not}
use Rattle.rescue.proofs.lay_record.Goals as goal

pub record_at-rec-requires : goal.record_at-rec-requires
record_at-rec-requires c =
    let p = c.requires in
    (p.0.bounded.width, omega (arith, p.0.inside, p.1))

pub record_fine-requires : goal.record_fine-requires
record_fine-requires c =
    let p = c.requires in
    ((ports-fit _ _ _ _ p.0).1, read-room _ _ _ _ p.0 _ p.1 _ c.record_at-rec.ensures)

pub returns-then-not-record_fine : goal.returns-then-not-record_fine
returns-then-not-record_fine c =
    let p = c.requires in
    lay-skip _ _ _ _ p.0 _ p.1 _ c.record_at-rec.ensures _ c.record_fine.ensures (ap not c.if-not-record_fine.true) _ _

pub hold_of-hold-requires : goal.hold_of-hold-requires
hold_of-hold-requires c =
    let p = c.requires in
    omega (arith, read-size _ _ _ _ p.0 _ p.1 _ c.record_at-rec.ensures)

pub slice_bounds-put_record-count : goal.slice_bounds-put_record-count
slice_bounds-put_record-count c =
    let p = c.requires in
    omega (arith, read-size _ _ _ _ p.0 _ p.1 _ c.record_at-rec.ensures)

pub put_record-requires : goal.put_record-requires
put_record-requires c =
    let p = c.requires in
    let is = c.record_at-rec.ensures in
    let fine = c.record_fine.ensures in
    let long = read-long _ _ _ _ p.0 _ p.1 _ is _ fine in (
      omega (arith, (ports-fit _ _ _ _ p.0).1),
      omega (arith, p.2, read-size _ _ _ _ p.0 _ p.1 _ is, part-size c.record_at-rec.result.now long, lay-size _ _ _ _ p.0 _ p.1 _ is _ fine (ap not c.if-not-record_fine.false) _ c.hold_of-hold.ensures),
    )

pub returns : goal.returns
returns c =
    let p = c.requires in
    let is = c.record_at-rec.ensures in
    let fine = c.record_fine.ensures in
    let held = c.hold_of-hold.ensures in (
      omega (arith, lay-size _ _ _ _ p.0 _ p.1 _ is _ fine (ap not c.if-not-record_fine.false) _ held),
      c.put_record.ensures ∙ ap (laid _ _) (lay-is _ _ _ _ p.0 _ p.1 _ is _ fine (ap not c.if-not-record_fine.false) _ held),
    )
