-- The lines from a record on are that of the record and those behind it.
use mathlib.Core.Path.{refl}
use mathlib.Core.List.{[]}
use Prim.Native.Nat.{◌+◌}
use native.Mathlib.Omega.{arith}
use lib.ListN.{get_or}
use Rattle.records.specs.Record.{decoded}
use Rattle.text.specs.Text.{record_line}
use Rattle.text.proofs.Put.{all_left, left_as, room, put_next, put_all}
use Rattle.text.proofs.Text.{lines_from, lines_next, lines_end}
use Rattle.text.proofs.put_record_lines.Goals as goal

pub loop-rec-init : goal.loop-rec-init
loop-rec-init c = (refl, all_left _ _ _ c.requires.1)

pub put_record_line-to-requires : goal.put_record_line-to-requires
put_record_line-to-requires c =
    let l = c.loop-rec in
    let p = c.args.plan.now in
    let n = c.args.n in
    (omega (arith, c.told-plan l.rec-index (omega arith)), room _ _ _ _ _ (record_line n (decoded (get_or p l.rec-index []))) (lines_from n p (l.rec-index + 1)) (left_as (lines_next n p l.rec-index (omega arith)) l.invariant.1))

pub loop-rec-preserved : goal.loop-rec-preserved
loop-rec-preserved c =
    let l = c.loop-rec in
    let p = c.args.plan.now in
    let n = c.args.n in
    (omega arith, put_next _ _ _ _ _ (record_line n (decoded (get_or p l.rec-index []))) (lines_from n p (l.rec-index + 1)) _ _ (left_as (lines_next n p l.rec-index (omega arith)) l.invariant.1) c.put_record_line-to.ensures)

pub returns : goal.returns
returns c =
    let l = c.loop-rec in
    put_all _ _ _ _ _ (left_as (lines_end c.args.n c.args.plan.now l.rec-index (omega arith)) l.invariant.1)
