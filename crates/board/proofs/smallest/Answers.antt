-- After i turns it is the least of the cells that the inputs below i use.
use mathlib.Core.Path.{◌≡◌, ap, ◌∙◌}
use Prim.Native.Nat.{ℕ, ◌-◌}
use native.Mathlib.Omega.{arith}
use Rattle.switch.specs.Demand.{cell}
use Rattle.rules.specs.Exact.{least}
use Rattle.board.specs.Level.{out_of}
use Rattle.board.proofs.Cells.{least-one, least-next, at_in, at-cell}
use Rattle.board.proofs.smallest.Goals as goal

pub used-first-requires : goal.used-first-requires
used-first-requires c = let u = c.requires in (u.sized.few, u.sized.some, u.long, u.inside 0 u.sized.some)

pub offset_bounds-cells-first : goal.offset_bounds-cells-first
offset_bounds-cells-first c = let u = c.requires in omega (arith, at_in _ _ _ u 0 u.sized.some _ c.used-first.ensures)

pub bounds-cells-first : goal.bounds-cells-first
bounds-cells-first c = let u = c.requires in (at_in _ _ _ u 0 u.sized.some _ c.used-first.ensures).0

pub loop-i-init : goal.loop-i-init
loop-i-init c = let u = c.requires in (u.sized.some, omega arith, at-cell _ _ _ u 0 u.sized.some _ c.used-first.ensures ∙ least-one _)

pub used-at-requires : goal.used-at-requires
used-at-requires c = let u = c.requires in (u.sized.few, c.loop-i-test.true, u.long, u.inside _ c.loop-i-test.true)

pub offset_bounds-cells-at : goal.offset_bounds-cells-at
offset_bounds-cells-at c = omega (arith, at_in _ _ _ c.requires _ c.loop-i-test.true _ c.used-at.ensures)

pub bounds-cells-at : goal.bounds-cells-at
bounds-cells-at c = (at_in _ _ _ c.requires _ c.loop-i-test.true _ c.used-at.ensures).0

pub loop-i-smaller : goal.loop-i-smaller
loop-i-smaller c = omega arith

pub loop-i-preserved : goal.loop-i-preserved
loop-i-preserved c =
    let l = c.loop-i in
    let a = c.args in
    let n = least-next (λ k. cell a.n a.cells.now k (out_of a.out.now k)) l.i l.invariant.1 in
    let v = at-cell _ _ _ c.requires l.i c.loop-i-test.true _ c.used-at.ensures in
    (omega arith, omega arith, omega (arith, c.min-hold.ensures))

pub returns : goal.returns
returns c =
    let l = c.loop-i in
    let a = c.args in
    let e : l.i ≡ a.n = omega arith in
    l.invariant.2 ∙ ap (λ (m : ℕ). least (m - 1) (λ k. cell a.n a.cells.now k (out_of a.out.now k))) e
