-- After j turns the label has the outputs below j whose cells are not zero.
use mathlib.Core.Path.{◌≡◌, refl, subst}
use Prim.Native.Nat.{◌*◌}
use native.Mathlib.Omega.{arith}
use Rattle.labels.specs.Ports.{outputs_of}
use Rattle.board.proofs.Cells.{index_in}
use Rattle.board.proofs.Labels.{Part, part_none, part-next, part-row}
use Rattle.board.proofs.label_row.Goals as goal

pub overflow_mul-row : goal.overflow_mul-row
overflow_mul-row c = let p = c.requires in omega (arith, index_in _ _ 0 _ p.0 p.1 p.0.some)

pub loop-j-init : goal.loop-j-init
loop-j-init c = (omega arith, part_none _ _ _ c.none-label.ensures)

pub mark-marked-requires : goal.mark-marked-requires
mark-marked-requires c = omega (arith, c.requires.0.few, c.loop-j-test.true)

pub overflow_add-row : goal.overflow_add-row
overflow_add-row c = let p = c.requires in omega (arith, index_in _ _ _ _ p.0 p.1 c.loop-j-test.true)

pub offset_bounds-cells-row : goal.offset_bounds-cells-row
offset_bounds-cells-row c = let p = c.requires in omega (arith, index_in _ _ _ _ p.0 p.1 c.loop-j-test.true)

pub bounds-cells-row : goal.bounds-cells-row
bounds-cells-row c = let p = c.requires in (index_in _ _ _ _ p.0 p.1 c.loop-j-test.true).0

pub without_if-label-requires : goal.without_if-label-requires
without_if-label-requires c = omega (arith, c.requires.0.few, c.loop-j-test.true)

pub loop-j-preserved : goal.loop-j-preserved
loop-j-preserved c =
    let a = c.args in
    let l = c.loop-j in
    (omega arith, part-next a.cells.now (a.i.0 * a.n) (outputs_of l.label) l.j _ _ c.mark-marked.ensures c.without_if-label.ensures l.invariant.1)

pub returns : goal.returns
returns c =
    let a = c.args in
    let l = c.loop-j in
    let e : l.j ≡ a.n = omega arith in
    part-row a.cells.now (a.i.0 * a.n) (outputs_of l.label) a.n a.i.0 refl (subst (Part a.cells.now (a.i.0 * a.n) (outputs_of l.label)) e l.invariant.1)
