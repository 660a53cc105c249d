-- The rows before row i are filled in order, and what each line still lacks is noted beside them.
use mathlib.Core.Path.{◌≡◌, ap, ◌∙◌}
use Prim.Native.Nat.{◌*◌}
use native.Mathlib.Omega.{arith}
use Rattle.rules.specs.Fill.{fill, fill_to}
use Rattle.board.proofs.Filling.{fill_to-zero}
use Rattle.board.proofs.fill_up.Goals as goal

pub loop-i-init : goal.loop-i-init
loop-i-init c = let a = c.args in let z : 0 ≡ 0 * a.n = omega arith in record { demand = c.requires; done = fill_to-zero _ _ _ ∙ ap (fill_to a.n a.longest a.cells.now) z; lacks = c.measure.ensures }

pub fill_row-requires : goal.fill_row-requires
fill_row-requires c = (c.loop-i-test.true, (c.args.longest, c.args.cells.now, c.loop-i.invariant))

pub loop-i-preserved : goal.loop-i-preserved
loop-i-preserved c = c.fill_row.ensures _ _ c.loop-i.invariant

pub returns : goal.returns
unfolding fill
returns c =
    let a = c.args in
    let l = c.loop-i in
    let e : l.i ≡ a.n = omega arith in
    l.invariant.done ∙ ap (λ m. fill_to a.n a.longest a.cells.now (m * a.n)) e
