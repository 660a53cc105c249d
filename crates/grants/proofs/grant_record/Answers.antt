-- Input by input the pair that it is joined to is granted the hold, in cells that are apart.
use mathlib.Core.Path.{sym, ◌∙◌}
use native.Mathlib.Omega.{arith}
use Rattle.switch.proofs.Demand.{index-small}
use Rattle.grants.proofs.Grant.{outputs-length, output-read, partly_none, partly-all, pair_inside, pair_small, partly-idle, partly-joined}
use Rattle.grants.proofs.grant_record.Goals as goal
use Rattle.grants.proofs.grant_record.Goals.{then-j-n, else-j-n}
use Rattle.std.proofs.Common.{refl, ◌<◌, ◌≤◌}

pub loop-i-init : goal.loop-i-init
loop-i-init c = partly_none _ _ _ _

pub offset_bounds-grants-at : goal.offset_bounds-grants-at
offset_bounds-grants-at c =
    let a = c.args in
    let l = c.loop-i in
    let here : l.i < c.args.n = omega (arith, outputs-length c.args.n c.args.rec.now c.requires.size) in
    omega (arith, c.requires.few, index-small a.n l.i c.requires.few here, c.cell_at-at.ensures)

pub bounds-grants-at : goal.bounds-grants-at
bounds-grants-at c =
    let l = c.loop-i in
    let here : l.i < c.args.n = omega (arith, outputs-length c.args.n c.args.rec.now c.requires.size) in
    let small : c.from-j.result < c.args.n = omega (arith, c.if-j-n.true) in
    let o = output-read c.args.n c.args.rec.now c.requires.size l.i here ∙ sym c.from-j.ensures in
    pair_inside _ _ _ _ _ l.i here l.invariant _ o small _ c.cell_at-at.ensures c.requires.room

pub overflow_add-grants : goal.overflow_add-grants
overflow_add-grants c =
    let l = c.loop-i in
    let here : l.i < c.args.n = omega (arith, outputs-length c.args.n c.args.rec.now c.requires.size) in
    let small : c.from-j.result < c.args.n = omega (arith, c.if-j-n.true) in
    let o = output-read c.args.n c.args.rec.now c.requires.size l.i here ∙ sym c.from-j.ensures in
    omega (arith, pair_small _ _ _ _ _ l.i here l.invariant _ o small _ c.cell_at-at.ensures _ c.requires)

pub bounds-grants-at-then-j-n : goal.bounds-grants-at-then-j-n
bounds-grants-at-then-j-n c =
    let l = c.loop-i in
    let here : l.i < c.args.n = omega (arith, outputs-length c.args.n c.args.rec.now c.requires.size) in
    let small : c.from-j.result < c.args.n = omega (arith, c.if-j-n.true) in
    let o = output-read c.args.n c.args.rec.now c.requires.size l.i here ∙ sym c.from-j.ensures in
    pair_inside _ _ _ _ _ l.i here l.invariant _ o small _ c.cell_at-at.ensures c.requires.room

pub loop-i-preserved : goal.loop-i-preserved
loop-i-preserved c =
    let l = c.loop-i in
    let here : l.i < c.args.n = omega (arith, outputs-length c.args.n c.args.rec.now c.requires.size) in
    let o = output-read c.args.n c.args.rec.now c.requires.size l.i here ∙ sym c.from-j.ensures in
    elim c.if-j-n.branch [
      | then-j-n w ↦ let small : c.from-j.result < c.args.n = omega (arith, w.if-j-n.true) in
          rw w.grants-is (partly-joined _ _ _ _ _ l.i here l.invariant _ o small _ w.cell_at-at.ensures c.requires.room _ refl)
      | else-j-n w ↦ let past : c.args.n ≤ c.from-j.result = omega (arith, w.if-j-n.false) in
          rw w.grants-is (partly-idle _ _ _ _ _ l.i here l.invariant _ o past)
    ]

pub returns : goal.returns
returns c = partly-all _ _ _ _ _ c.loop-i.i (omega (arith, c.loop-i-test.false, outputs-length c.args.n c.args.rec.now c.requires.size)) c.loop-i.invariant
