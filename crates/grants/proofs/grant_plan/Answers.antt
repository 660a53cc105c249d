-- All records before k are well formed, and what they grant stands in the grants.
use mathlib.Core.Path.{◌≡◌, refl, ◌∙◌}
use native.Mathlib.Omega.{arith}
use Rattle.records.specs.Bytes.{plan_from}
use Rattle.plans.proofs.Pass.{through-none, pass-end, read-size, pass-stop, pass-more, pass-all, pass-holds, pass-damaged}
use Rattle.grants.proofs.Grant.{grants-none, grants-more, grants-small}
use Rattle.switch.specs.Plan.{total}
use Rattle.std.proofs.Common.{ap, not, ◌≤◌}
use Rattle.grants.proofs.grant_plan.Goals as goal

pub loop-k-init : goal.loop-k-init
unfolding plan_from
loop-k-init c = (through-none _ _ _ _, refl, grants-none _ _ c.requires.1)

pub record_at-rec-requires : goal.record_at-rec-requires
record_at-rec-requires c = (c.requires.0.bounded.width, omega (arith, c.requires.0.inside))

pub record_fine-requires : goal.record_fine-requires
record_fine-requires c =
    let p = c.requires.0 in
    (omega (arith, p.few, p.bounded.ports, p.bounded.width), omega (arith, p.few, p.bounded.ports, read-size _ _ _ _ p _ 0 (omega arith) _ c.record_at-rec.ensures))

pub returns-then-not-record_fine-clause-end : goal.returns-then-not-record_fine-clause-end
returns-then-not-record_fine-clause-end c =
    let l = c.loop-k in
    pass-stop _ _ _ _ c.requires.0 _ _ (omega arith) _ c.record_at-rec.ensures l.invariant.0 _ c.record_fine.ensures (λ p. tt) (ap not c.if-not-record_fine.true)

pub returns-then-not-record_fine-clause-held : goal.returns-then-not-record_fine-clause-held
returns-then-not-record_fine-clause-held c =
    let l = c.loop-k in
    rw (pass-damaged _ _ _ _ c.requires.0 _ _ (omega arith) _ c.record_at-rec.ensures l.invariant.0 _ c.record_fine.ensures (ap not c.if-not-record_fine.true)) l.invariant.0.holds

pub returns-then-not-record_fine-clause-granted : goal.returns-then-not-record_fine-clause-granted
returns-then-not-record_fine-clause-granted c =
    let l = c.loop-k in
    rw (pass-damaged _ _ _ _ c.requires.0 _ _ (omega arith) _ c.record_at-rec.ensures l.invariant.0 _ c.record_fine.ensures (ap not c.if-not-record_fine.true)) l.invariant.2

pub hold_of-requires : goal.hold_of-requires
hold_of-requires c = omega (arith, read-size _ _ _ _ c.requires.0 _ 0 (omega arith) _ c.record_at-rec.ensures)

pub grant_record-requires : goal.grant_record-requires
grant_record-requires c =
    let p = c.requires.0 in
    let l = c.loop-k in
    record {
      few = omega (arith, p.few, p.bounded.ports, p.bounded.width);
      size = omega (arith, p.few, p.bounded.ports, read-size _ _ _ _ p _ 0 (omega arith) _ c.record_at-rec.ensures);
      room = l.invariant.2.room;
      small = grants-small _ _ _ _ l.invariant.2 (omega (arith, l.invariant.0.holds, l.invariant.0.small, p.most));
    }

pub overflow_add-total : goal.overflow_add-total
overflow_add-total c = omega (arith, c.loop-k.invariant.0.small, c.requires.0.most)

pub loop-k-preserved : goal.loop-k-preserved
loop-k-preserved c =
    let p = c.requires.0 in
    let l = c.loop-k in
    let is = c.record_at-rec.ensures in
    let h = c.from-hold.ensures ∙ c.hold_of.ensures in (
      rw c.from-total.ensures (pass-more _ _ _ _ p _ _ (omega arith) _ is l.invariant.0 _ c.record_fine.ensures (ap not c.if-not-record_fine.false) _ h (omega arith)),
      c.grant_record.ensures.size ∙ l.invariant.1,
      grants-more _ _ _ l.k _ is _ h _ _ l.invariant.2 c.grant_record.ensures,
    )

pub returns-clause-end : goal.returns-clause-end
returns-clause-end c =
    let l = c.loop-k in
    pass-end _ _ _ _ c.requires.0 (λ p. tt) l.k _ (omega arith) l.invariant.0 tt refl

pub returns-clause-held : goal.returns-clause-held
returns-clause-held c =
    let l = c.loop-k in
    let end : c.args.records ≤ l.k = omega arith in
    rw (pass-all _ _ _ _ c.requires.0 l.k _ end l.invariant.0) (pass-holds _ _ _ _ c.requires.0 l.k _ end l.invariant.0)

pub returns-clause-granted : goal.returns-clause-granted
returns-clause-granted c =
    let l = c.loop-k in
    let e : l.k ≡ c.args.records = omega (arith, l.invariant.0.inside) in
    rw (pass-all _ _ _ _ c.requires.0 l.k _ (omega arith) l.invariant.0, ← e) l.invariant.2
