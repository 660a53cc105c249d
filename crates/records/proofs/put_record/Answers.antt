-- The four stores lay the head, and each turn of the loop lays one output more behind it.
use mathlib.Core.Path.{refl, ◌∙◌}
use Prim.Native.Nat.{◌+◌, ◌%◌, ◌/◌}
use native.Mathlib.Omega.{arith}
use lib.ListN.{length-set}
use Rattle.records.proofs.Laid.{laid-stores, copy-none, copy_more, copy-all}
use Rattle.std.proofs.Common.{rules}
use Rattle.records.proofs.put_record.Goals as goal

pub bounds-plan-at-2 : goal.bounds-plan-at-2
bounds-plan-at-2 c = simp length-set (omega arith)

pub bounds-plan-at-3 : goal.bounds-plan-at-3
bounds-plan-at-3 c = simp length-set (omega arith)

pub bounds-plan-at-4 : goal.bounds-plan-at-4
bounds-plan-at-4 c = simp length-set (omega arith)

pub loop-i-init : goal.loop-i-init
loop-i-init c = (search rules, refl, simp length-set (omega arith), refl, copy-none _ _ c.args.outputs.now)

pub loop-i-preserved : goal.loop-i-preserved
loop-i-preserved c =
    let l = c.loop-i in
    let a = c.args in
    (omega arith, refl, l.invariant.2, rw length-set l.invariant.3, copy_more _ (a.at + 4) a.outputs.now l.plan l.i (omega arith) (omega arith) l.invariant.4)

pub returns : goal.returns
returns c =
    let l = c.loop-i in
    let a = c.args in
    copy-all _ (a.at + 4) a.outputs.now l.plan l.i (omega arith) l.invariant.4
    ∙ laid-stores a.plan.now a.at (a.hold % 256) (a.hold / 256) a.n a.edition a.outputs.now (omega arith)
