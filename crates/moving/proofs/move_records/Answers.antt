-- Each turn of the loop lays one record more behind those before it.
use mathlib.Core.Path.{ap}
use native.Mathlib.Omega.{arith}
use lib.ListN.{length}
use Rattle.moving.proofs.Laying.{here-long, laying-none, laying-room, laying-next, laying-all}
use Rattle.std.proofs.Common.{rules}
use Rattle.moving.proofs.move_records.Goals as goal

pub loop-k-init : goal.loop-k-init
loop-k-init c = (search rules, laying-none _ _ _ _ _ _ c.requires)

pub record_at-rec-requires : goal.record_at-rec-requires
record_at-rec-requires c = let p = c.requires in (p.width, omega (arith, p.inside))

pub move_record-requires : goal.move_record-requires
move_record-requires c =
    let p = c.requires in
    let l = c.loop-k in
    let k = l.k in
    (p.bounded, p.few, omega (arith, here-long _ _ _ _ _ _ p k (omega arith), ap length c.record_at-rec.ensures), laying-room _ _ _ _ _ _ p k _ (omega arith) _ l.invariant.1)

pub overflow_add-at : goal.overflow_add-at
overflow_add-at c = omega (arith, c.requires.bounded.width)

pub overflow_add-at-in-loop-k : goal.overflow_add-at-in-loop-k
overflow_add-at-in-loop-k c =
    let p = c.requires in
    let l = c.loop-k in
    omega (arith, laying-room _ _ _ _ _ _ p l.k _ (omega arith) _ l.invariant.1)

pub loop-k-preserved : goal.loop-k-preserved
loop-k-preserved c =
    let p = c.requires in
    let l = c.loop-k in
    (omega arith, laying-next _ _ _ _ _ _ p l.k _ (omega arith) _ l.invariant.1 _ (rw c.record_at-rec.ensures at c.move_record.ensures))

pub returns : goal.returns
returns c =
    let l = c.loop-k in
    laying-all _ _ _ _ _ _ c.requires l.k _ (omega arith) _ l.invariant.1
