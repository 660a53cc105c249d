-- The cell is at least the hold; the label is written only where nothing is left, and that is all that the cell asks of it.
use mathlib.Core.Path.{ap}
use Prim.Native.Nat.{ℕ}
use lib.ListN.{get_or}
use native.Mathlib.Omega.{arith}
use Rattle.switch.specs.Demand.{cell}
use Rattle.board.proofs.Cells.{index_in}
use Rattle.board.proofs.Labels.{taken-some, taken-all}
use Rattle.board.proofs.empties.Goals as goal

pub offset_bounds-cells-at : goal.offset_bounds-cells-at
offset_bounds-cells-at c = let p = c.requires in omega (arith, c.cell_at-at.ensures, index_in _ _ _ _ p.sized p.input p.output)

pub bounds-cells-at : goal.bounds-cells-at
bounds-cells-at c = let p = c.requires in omega (arith, c.cell_at-at.ensures, index_in _ _ _ _ p.sized p.input p.output)

pub overflow_sub-left : goal.overflow_sub-left
unfolding cell
overflow_sub-left c =
    omega (arith, c.requires.enough, ap (λ (k : ℕ). get_or c.args.cells.now k 0) c.cell_at-at.ensures)

pub offset_bounds-cells-at-2 : goal.offset_bounds-cells-at-2
offset_bounds-cells-at-2 c = let p = c.requires in omega (arith, c.cell_at-at.ensures, index_in _ _ _ _ p.sized p.input p.output)

pub bounds-cells-at-2 : goal.bounds-cells-at-2
bounds-cells-at-2 c = let p = c.requires in omega (arith, c.cell_at-at.ensures, index_in _ _ _ _ p.sized p.input p.output)

pub returns-then-left-ne0 : goal.returns-then-left-ne0
returns-then-left-ne0 c = taken-some _ _ _ _ _ _ c.requires _ c.cell_at-at.ensures (λ z. omega (arith, c.if-left-ne0.true))

pub returns : goal.returns
returns c = taken-all _ _ _ _ _ _ c.requires _ c.cell_at-at.ensures (omega (arith, c.if-left-ne0.false)) _ _ _ c.row_of-row.ensures c.without.ensures c.put_row.ensures
