-- The smaller of the two lacks fits the cell, and both lines lack at least so much.
use mathlib.Core.Path.{ap, ap₂}
use Prim.Native.Nat.{ℕ, ◌+◌, ◌-◌}
use native.Mathlib.Omega.{arith}
use lib.ListN.{get_or, set, length-set}
use Rattle.switch.specs.Demand.{cell}
use Rattle.board.proofs.Cells.{index_in}
use Rattle.board.proofs.fill_cell.Goals as goal

pub offset_bounds-cells-at : goal.offset_bounds-cells-at
offset_bounds-cells-at c = let p = c.requires in omega (arith, c.cell_at-at.ensures, index_in _ _ _ _ p.sized p.input p.output)

pub bounds-cells-at : goal.bounds-cells-at
bounds-cells-at c = let p = c.requires in omega (arith, c.cell_at-at.ensures, index_in _ _ _ _ p.sized p.input p.output)

pub overflow_add-cells : goal.overflow_add-cells
unfolding cell
overflow_add-cells c =
    let a = c.args in
    omega (arith, c.min-more.ensures, c.requires.fits, ap (λ (k : ℕ). get_or a.cells.now k 0) c.cell_at-at.ensures)

pub bounds-cells-at-2 : goal.bounds-cells-at-2
bounds-cells-at-2 c = let p = c.requires in omega (arith, c.cell_at-at.ensures, index_in _ _ _ _ p.sized p.input p.output)

pub bounds-lacking-column-2 : goal.bounds-lacking-column-2
bounds-lacking-column-2 c = simp length-set (omega arith)

pub returns : goal.returns
unfolding cell
returns c =
    let a = c.args in
    let e = c.cell_at-at.ensures in
    let m = c.min-more.ensures in (
      ap₂ (λ (k v : ℕ). set a.cells.now k (get_or a.cells.now k 0 + v)) e m,
      ap (λ (v : ℕ). set (set a.lacking.now a.i.0 (get_or a.lacking.now a.i.0 0 - v)) (a.n + a.j.0) (get_or a.lacking.now (a.n + a.j.0) 0 - v)) m,
    )
