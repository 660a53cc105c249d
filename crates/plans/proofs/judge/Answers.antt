-- All records before k are well formed, and their holds are summed.
use Rattle.std.proofs.Common.{ap, not, ◌≤◌}
use native.Mathlib.Omega.{arith}
use Rattle.plans.proofs.Pass.{through-none, pass-end, read-size, pass-stop, pass-more, pass-holds}
use Rattle.switch.specs.Plan.{total}
use Rattle.plans.proofs.judge.Goals as goal

pub loop-k-init : goal.loop-k-init
loop-k-init c = through-none _ _ _ _

pub record_at-rec-requires : goal.record_at-rec-requires
record_at-rec-requires c = (c.requires.bounded.width, omega (arith, c.requires.inside))

pub record_fine-requires : goal.record_fine-requires
record_fine-requires c =
    let p = c.requires in
    (omega (arith, p.few, p.bounded.ports, p.bounded.width), omega (arith, p.few, p.bounded.ports, read-size _ _ _ _ p _ 0 (omega arith) _ c.record_at-rec.ensures))

pub returns-then-not-record_fine : goal.returns-then-not-record_fine
returns-then-not-record_fine c =
    let l = c.loop-k in
    let p = c.requires in
    pass-stop _ _ _ _ p _ _ (omega arith) _ c.record_at-rec.ensures l.invariant _ c.record_fine.ensures total (ap not c.if-not-record_fine.true)

pub hold_of-requires : goal.hold_of-requires
hold_of-requires c = omega (arith, read-size _ _ _ _ c.requires _ 0 (omega arith) _ c.record_at-rec.ensures)

pub overflow_add-total : goal.overflow_add-total
overflow_add-total c = omega (arith, c.loop-k.invariant.small, c.requires.most)

pub loop-k-preserved : goal.loop-k-preserved
loop-k-preserved c =
    let l = c.loop-k in
    let is = c.record_at-rec.ensures in
    rw c.from-total.ensures (pass-more _ _ _ _ c.requires _ _ (omega arith) _ is l.invariant _ c.record_fine.ensures (ap not c.if-not-record_fine.false) _ c.hold_of.ensures (omega arith))

pub returns : goal.returns
returns c =
    let l = c.loop-k in
    let end : c.args.records ≤ l.k = omega arith in
    pass-end _ _ _ _ c.requires total l.k _ end l.invariant _ (pass-holds _ _ _ _ c.requires l.k _ end l.invariant)
