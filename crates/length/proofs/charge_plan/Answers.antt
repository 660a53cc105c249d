-- All records before k are well formed, and the length is their holds and what they are charged, at most twice 65,535 each.
use mathlib.Core.Path.{◌≡◌}
use native.Mathlib.Omega.{arith}
use Rattle.counting.proofs.Sum.{sum-zero, sum-next}
use Rattle.records.specs.Bytes.{plan_of}
use Rattle.length.specs.Length.{charge, length_counts}
use Rattle.length.proofs.Length.{counts-told}
use Rattle.plans.proofs.Pass.{through-none, pass-end, read-size, pass-stop, pass-more, pass-holds}
use Rattle.std.proofs.Common.{ap, not, ◌∙◌, ◌≤◌}
use Rattle.length.proofs.charge_plan.Goals as goal

pub loop-k-init : goal.loop-k-init
loop-k-init c = (through-none _ _ _ _, omega (arith, sum-zero (charge c.args.d (plan_of c.args.e.width c.args.plan.now))), omega arith)

pub record_at-rec-requires : goal.record_at-rec-requires
record_at-rec-requires c = (c.requires.0.bounded.width, omega (arith, c.requires.0.inside))

pub record_fine-requires : goal.record_fine-requires
record_fine-requires c =
    let p = c.requires.0 in
    (omega (arith, p.few, p.bounded.ports, p.bounded.width), omega (arith, p.few, p.bounded.ports, read-size _ _ _ _ p _ 0 (omega arith) _ c.record_at-rec.ensures))

pub returns-then-not-record_fine : goal.returns-then-not-record_fine
returns-then-not-record_fine c =
    pass-stop _ _ _ _ c.requires.0 _ _ (omega arith) _ c.record_at-rec.ensures c.loop-k.invariant.0 _ c.record_fine.ensures (length_counts c.args.d) (ap not c.if-not-record_fine.true)

pub hold_of-requires : goal.hold_of-requires
hold_of-requires c = omega (arith, read-size _ _ _ _ c.requires.0 _ 0 (omega arith) _ c.record_at-rec.ensures)

pub overflow_add-total : goal.overflow_add-total
overflow_add-total c = omega (arith, c.loop-k.invariant.0.small, c.requires.0.most)

pub charge_of-requires : goal.charge_of-requires
charge_of-requires c = (c.requires.0.bounded.width, omega (arith, c.requires.0.inside))

pub overflow_add-length : goal.overflow_add-length
overflow_add-length c = omega (arith, c.charge_of.ensures.1)

pub overflow_add-length-in-loop-k : goal.overflow_add-length-in-loop-k
overflow_add-length-in-loop-k c = omega (arith, c.charge_of.ensures.1, c.loop-k.invariant.2, c.requires.0.most)

pub loop-k-preserved : goal.loop-k-preserved
loop-k-preserved c =
    let p = c.requires.0 in
    let l = c.loop-k in (
      pass-more _ _ _ _ p _ _ (omega arith) _ c.record_at-rec.ensures l.invariant.0 _ c.record_fine.ensures (ap not c.if-not-record_fine.false) _ (c.from-hold.ensures ∙ c.hold_of.ensures) (omega arith),
      omega (arith, l.invariant.1, c.charge_of.ensures.0, sum-next l.k (charge c.args.d (plan_of c.args.e.width c.args.plan.now))),
      omega (arith, l.invariant.2, c.charge_of.ensures.1),
    )

pub returns : goal.returns
returns c =
    let l = c.loop-k in
    let a = c.args in
    let end : a.count ≤ l.k = omega arith in
    let e : l.k ≡ a.count = omega (arith, l.invariant.0.inside) in
    let holds = pass-holds _ _ _ _ c.requires.0 l.k _ end l.invariant.0 in
    rw c.counted.ensures
    (pass-end _ _ _ _ c.requires.0 (length_counts a.d) l.k _ end l.invariant.0 _ (counts-told a.e a.d a.plan.now a.count l.total l.length c.requires.1 holds (rw e at l.invariant.1)))
