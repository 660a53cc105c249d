-- A record without a reason has no entry; any other has one, with the reason.
use mathlib.Core.Path.{refl, ap, ◌∙◌}
use native.Mathlib.Omega.{arith}
use Rattle.records.specs.Bytes.{laid}
use Rattle.rescue_rule.proofs.Read.{ports-fit, read-room}
use Rattle.dropping.proofs.Listing.{list-skip, list-is, list-size, some-reason}
use Rattle.dropping.proofs.list_record.Goals as goal

pub record_at-rec-requires : goal.record_at-rec-requires
record_at-rec-requires c =
    let p = c.requires in
    (p.0.bounded.width, omega (arith, p.0.inside, p.1))

pub reason_of-requires : goal.reason_of-requires
reason_of-requires c =
    let p = c.requires in
    ((ports-fit _ _ _ _ p.0).1, read-room _ _ _ _ p.0 _ p.1 _ c.record_at-rec.ensures)

pub returns-in_default : goal.returns-in_default
returns-in_default c =
    let p = c.requires in
    list-skip _ _ _ _ p.0 _ p.1 _ c.record_at-rec.ensures 0 c.in_default.ensures refl _ _

pub put_entry-requires : goal.put_entry-requires
put_entry-requires c =
    let p = c.requires in
    (omega (arith, p.0.most, p.1), omega (arith, p.2, list-size _ _ _ _ p.0 _ p.1 _ c.record_at-rec.ensures _ c.in-Some.ensures (some-reason c.in-Some.why)))

pub returns : goal.returns
returns c =
    let p = c.requires in
    let is = c.record_at-rec.ensures in
    let why = c.in-Some.ensures in
    let some = some-reason c.in-Some.why in
    (omega (arith, list-size _ _ _ _ p.0 _ p.1 _ is _ why some), c.put_entry.ensures ∙ ap (laid _ _) (list-is _ _ _ _ p.0 _ p.1 _ is _ why some))
