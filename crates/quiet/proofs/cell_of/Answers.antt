-- A joined input's cell stands where its pair's index says; an idle input has none.
use native.Mathlib.Omega.{arith}
use Rattle.board.proofs.Cells.{get_d_any, index_in}
use Rattle.quiet.proofs.Taking.{cell-joined, cell-idle}
use Rattle.quiet.proofs.cell_of.Goals as goal

pub bounds-out-k : goal.bounds-out-k
bounds-out-k c = omega (arith, c.requires.1, c.requires.2)

pub offset_bounds-cells-at : goal.offset_bounds-cells-at
offset_bounds-cells-at c = let p = c.requires in omega (arith, c.cell_at-at.ensures, index_in _ _ _ _ p.0 p.1 c.if-j-n.true)

pub bounds-cells-at : goal.bounds-cells-at
bounds-cells-at c = let p = c.requires in omega (arith, c.cell_at-at.ensures, index_in _ _ _ _ p.0 p.1 c.if-j-n.true)

pub returns-then-j-n : goal.returns-then-j-n
returns-then-j-n c = let a = c.args in cell-joined a.n a.cells.now a.out.now a.i.0 _ (get_d_any c.args.out.now c.args.i.0 0 255 (omega (arith, c.requires.1, c.requires.2))) c.if-j-n.true _ c.cell_at-at.ensures

pub returns : goal.returns
returns c = let a = c.args in cell-idle a.n a.cells.now a.out.now a.i.0 _ (get_d_any c.args.out.now c.args.i.0 0 255 (omega (arith, c.requires.1, c.requires.2))) c.if-j-n.false
