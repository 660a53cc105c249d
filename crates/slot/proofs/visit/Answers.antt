-- The lowest output that the input's label has in common with the free ones is what the rule gives it, and one slot of that pair is taken off.
use mathlib.Core.Path.{refl, sym, subst}
use Prim.Native.Nat.{◌<◌}
use native.Mathlib.Omega.{arith}
use Rattle.switch.specs.Demand.{cell}
use Rattle.sets.specs.Label.{LowestAt}
use Rattle.labels.specs.Ports.{outputs_of}
use Rattle.board.specs.Labelled.{RowOf}
use Rattle.slot.proofs.Turns.{turn-none, turn_at, some_left, turned_none, turned-at}
use Rattle.slot.proofs.visit.Goals as goal

pub returns-in_default : goal.returns-in_default
returns-in_default c =
    let label : RowOf c.args.n c.args.work.now c.args.i.0 (outputs_of c.row_of-row.result) = subst (RowOf _ _ _) (sym c.row_of-row.ensures) (c.requires.0.labels.row _ c.requires.1) in
    let a = c.args in
    turned_none a.n a.i.0 a.work.now a.rows.now a.out.now a.turn c.requires.0
    (turn-none _ _ _ _ _ _ label c.common-both.ensures c.in_default.ensures)
    c.requires.3 _ refl refl _ label c.still_asking.ensures

pub overflow_cast-out : goal.overflow_cast-out
overflow_cast-out c = let low : LowestAt 128 (outputs_of c.common-both.result) c.in-Some.j.0 = c.in-Some.ensures in
    omega (arith, low.small)

pub take-requires : goal.take-requires
take-requires c =
    let label : RowOf c.args.n c.args.work.now c.args.i.0 (outputs_of c.row_of-row.result) = subst (RowOf _ _ _) (sym c.row_of-row.ensures) (c.requires.0.labels.row _ c.requires.1) in
    let low : LowestAt 128 (outputs_of c.common-both.result) c.in-Some.j.0 = c.in-Some.ensures in
    let left : (c.in-Some.j.0 < c.args.n) × (0 < cell c.args.n c.args.work.now c.args.i.0 c.in-Some.j.0) = label.only _ (c.common-both.ensures.left _ low.here) in
    let p = c.requires in
    record { sized = p.0.sized; labels = p.0.labels; input = p.1; output = left.0; enough = left.1 }

pub without-requires : goal.without-requires
without-requires c = let low : LowestAt 128 (outputs_of c.common-both.result) c.in-Some.j.0 = c.in-Some.ensures in
    low.small

pub overflow_sub-result : goal.overflow_sub-result
overflow_sub-result c =
    let label : RowOf c.args.n c.args.work.now c.args.i.0 (outputs_of c.row_of-row.result) = subst (RowOf _ _ _) (sym c.row_of-row.ensures) (c.requires.0.labels.row _ c.requires.1) in
    let low : LowestAt 128 (outputs_of c.common-both.result) c.in-Some.j.0 = c.in-Some.ensures in
    let left : (c.in-Some.j.0 < c.args.n) × (0 < cell c.args.n c.args.work.now c.args.i.0 c.in-Some.j.0) = label.only _ (c.common-both.ensures.left _ low.here) in
    omega (arith, c.requires.0.all, some_left c.args.n c.args.work.now c.args.i.0 c.in-Some.j.0 c.requires.1 left.0 left.1)

pub returns : goal.returns
returns c =
    let label : RowOf c.args.n c.args.work.now c.args.i.0 (outputs_of c.row_of-row.result) = subst (RowOf _ _ _) (sym c.row_of-row.ensures) (c.requires.0.labels.row _ c.requires.1) in
    let low : LowestAt 128 (outputs_of c.common-both.result) c.in-Some.j.0 = c.in-Some.ensures in
    let left : (c.in-Some.j.0 < c.args.n) × (0 < cell c.args.n c.args.work.now c.args.i.0 c.in-Some.j.0) = label.only _ (c.common-both.ensures.left _ low.here) in
    let a = c.args in
    turned-at a.n a.i.0 a.work.now a.rows.now a.out.now a.turn c.requires.0 c.in-Some.j.0 c.requires.1 left.0 left.1
    (turn_at _ _ _ _ _ _ label c.common-both.ensures _ low)
    c.take.new.cells c.take.new.rows _ c.take.ensures c.without.ensures refl refl
