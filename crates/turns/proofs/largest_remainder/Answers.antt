-- After i turns it is the largest remainder of the setting's first i pairs.
use mathlib.Core.Path.{sym, ap, ◌∙◌}
use Prim.Native.Nat.{ℕ, ◌%◌}
use native.Mathlib.Omega.{arith}
use Rattle.counting.specs.Sum.{most}
use Rattle.counting.proofs.Most.{most-zero, most-next}
use Rattle.rules.specs.Doubled.{tight}
use Rattle.turns.proofs.Holds.{pair_inside, pair-cell}
use Rattle.turns.proofs.largest_remainder.Invariants.{left}
use Rattle.turns.proofs.largest_remainder.Goals as goal

pub loop-i-init : goal.loop-i-init
loop-i-init c = (omega arith, sym (most-zero _))

pub cell_at-at-requires : goal.cell_at-at-requires
cell_at-at-requires c = (c.requires.0.few, c.loop-i-test.true, c.output_of.ensures.1)

pub offset_bounds-cells-at : goal.offset_bounds-cells-at
offset_bounds-cells-at c =
    let h = c.requires.0 in
    omega (arith, pair_inside h _ _ c.cell_at-at.ensures c.loop-i-test.true c.output_of.ensures.1)

pub bounds-cells-at : goal.bounds-cells-at
bounds-cells-at c =
    let h = c.requires.0 in
    pair_inside h _ _ c.cell_at-at.ensures c.loop-i-test.true c.output_of.ensures.1

pub loop-i-preserved : goal.loop-i-preserved
loop-i-preserved c =
    let a = c.args in
    let l = c.loop-i in
    let m = most-next l.i (left a.way a.n a.cells.now a.unit a.k) in
    let cell-is = pair-cell c.requires.0 _ _ c.cell_at-at.ensures c.output_of.ensures.0 in
    let v = ap (λ x. x % a.unit) cell-is in
    (omega arith, omega (arith, c.max-largest.ensures, v, m, l.invariant.1))

pub returns : goal.returns
unfolding tight
returns c =
    let a = c.args in
    let l = c.loop-i in
    l.invariant.1 ∙ ap (λ (m : ℕ). most m (left a.way a.n a.cells.now a.unit a.k)) (omega arith)
