-- After i turns the set has the inputs below i with slots for the output.
use mathlib.Core.Path.{◌≡◌, sym, subst, ◌∙◌}
use Prim.Native.Nat.{ℕ, ◌+◌}
use native.Mathlib.Omega.{arith}
use Rattle.shop.specs.Sets.{InputSet, numbers_of}
use Rattle.shop.specs.Kept.{Column}
use Rattle.shop.proofs.Follows.{pair-in, pair-cell}
use Rattle.shop.proofs.Columns.{column-none, column-mark, column-skip}
use Rattle.shop.proofs.label_column.Goals as goal
use Rattle.shop.proofs.label_column.Goals.{then-cells-i-ne0, else-cells-i-ne0}

pub loop-i-init : goal.loop-i-init
loop-i-init c = (omega arith, column-none _ _ _ _ c.none-asks.ensures)

pub overflow_mul-i : goal.overflow_mul-i
overflow_mul-i c =
    let p = pair-in c.args.n c.loop-i.i c.args.j.0 c.args.cells.now c.requires.0 c.requires.1 (omega arith) c.requires.2 in
    omega arith

pub overflow_add-i : goal.overflow_add-i
overflow_add-i c =
    let p = pair-in c.args.n c.loop-i.i c.args.j.0 c.args.cells.now c.requires.0 c.requires.1 (omega arith) c.requires.2 in
    omega arith

pub offset_bounds-cells-i : goal.offset_bounds-cells-i
offset_bounds-cells-i c =
    let p = pair-in c.args.n c.loop-i.i c.args.j.0 c.args.cells.now c.requires.0 c.requires.1 (omega arith) c.requires.2 in
    omega arith

pub bounds-cells-i : goal.bounds-cells-i
bounds-cells-i c =
    let p = pair-in c.args.n c.loop-i.i c.args.j.0 c.args.cells.now c.requires.0 c.requires.1 (omega arith) c.requires.2 in
    p.0

pub loop-i-preserved : goal.loop-i-preserved
loop-i-preserved c =
    let a = c.args in
    let l = c.loop-i in
    let e = pair-cell a.n l.i a.j.0 a.cells.now in (
      omega arith,
      elim c.if-cells-i-ne0.branch [
        | then-cells-i-ne0 x ↦ subst (λ (q : InputSet). Column (l.i + 1) a.n a.cells.now a.j.0 (numbers_of q)) (sym x.asks-is) (column-mark a.n a.cells.now a.j.0 l.i (numbers_of l.asks) l.invariant.1 (numbers_of x.mark-asks.result) (λ z. x.if-cells-i-ne0.true (e ∙ z)) x.mark-asks.ensures)
        | else-cells-i-ne0 x ↦ subst (λ (q : InputSet). Column (l.i + 1) a.n a.cells.now a.j.0 (numbers_of q)) (sym x.asks-is) (column-skip a.n a.cells.now a.j.0 l.i (numbers_of l.asks) l.invariant.1 (sym e ∙ x.if-cells-i-ne0.false))
      ],
    )

pub returns : goal.returns
returns c =
    let l = c.loop-i in
    let a = c.args in
    let e : l.i ≡ a.n = omega arith in
    subst (λ (m : ℕ). Column m a.n a.cells.now a.j.0 (numbers_of l.asks)) e l.invariant.1
