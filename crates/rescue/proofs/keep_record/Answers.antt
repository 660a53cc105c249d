-- A record that is not well formed changes nothing; one that is, is counted, and its pairs are granted its hold.
use mathlib.Core.Path.{refl}
use native.Mathlib.Omega.{arith}
use Rattle.rescue_rule.proofs.Read.{ports-fit, read-size, read-room}
use Rattle.rescue.proofs.Keep.{kept-few, keeping-skip, keeping-more, may-grant}
use Rattle.std.proofs.Common.{ap, not}
use Rattle.rescue.proofs.keep_record.Goals as goal

pub record_at-read-requires : goal.record_at-read-requires
record_at-read-requires c =
    let p = c.requires in
    (p.0.bounded.width, omega (arith, p.0.inside, p.1))

pub record_fine-requires : goal.record_fine-requires
record_fine-requires c =
    let p = c.requires in
    ((ports-fit _ _ _ _ p.0).1, read-room _ _ _ _ p.0 _ p.1 _ c.record_at-read.ensures)

pub returns-then-not-record_fine : goal.returns-then-not-record_fine
returns-then-not-record_fine c =
    let p = c.requires in
    (keeping-skip _ _ _ _ p.0 _ p.1 _ c.record_at-read.ensures _ _ p.2 _ c.record_fine.ensures (ap not c.if-not-record_fine.true), refl)

pub hold_of-hold-requires : goal.hold_of-hold-requires
hold_of-hold-requires c =
    let p = c.requires in
    omega (arith, read-size _ _ _ _ p.0 _ p.1 _ c.record_at-read.ensures)

pub grant_record-requires : goal.grant_record-requires
grant_record-requires c =
    let p = c.requires in
    may-grant _ _ _ _ p.0 _ p.1 _ c.record_at-read.ensures _ _ p.2 _ c.record_fine.ensures _ (omega arith)

pub overflow_add-result : goal.overflow_add-result
overflow_add-result c =
    omega (arith, c.requires.2.records, kept-few c.args.e.width c.args.e.byte c.args.n c.args.plan.now c.args.k, c.requires.0.most, c.requires.1)

pub returns : goal.returns
returns c =
    let p = c.requires in
    let is = c.record_at-read.ensures in
    let fine = c.record_fine.ensures in
    let granted = rw c.from.ensures at c.grant_record.ensures in (
      rw c.from-2.ensures (keeping-more _ _ _ _ p.0 _ p.1 _ is _ _ p.2 _ fine (ap not c.if-not-record_fine.false) _ c.hold_of-hold.ensures (omega arith) _ granted),
      granted.size,
    )
