-- After j turns the outputs below j are counted whose cells are not zero.
use mathlib.Core.Path.{◌≡◌, sym, ap, ◌∙◌}
use Prim.Native.Nat.{ℕ, ◌+◌, ◌*◌}
use native.Mathlib.Omega.{arith}
use lib.ListN.{get_or}
use lib.Dec.{ltb}
use Rattle.counting.specs.Sum.{sum}
use Rattle.counting.specs.Count.{ind, count}
use Rattle.counting.proofs.Sum.{sum-zero, sum-next}
use Rattle.counting.proofs.Count.{ind-le}
use Rattle.switch.specs.Demand.{cell}
use Rattle.board.proofs.Cells.{index_in}
use Rattle.quiet.proofs.asked_of.Goals as goal

pub overflow_mul-row : goal.overflow_mul-row
overflow_mul-row c = let p = c.requires in omega (arith, index_in _ _ 0 _ p.0 p.1 p.0.some)

pub loop-j-init : goal.loop-j-init
loop-j-init c = (omega arith, sym (sum-zero _), omega arith)

pub overflow_add-row : goal.overflow_add-row
overflow_add-row c = let p = c.requires in omega (arith, index_in _ _ _ _ p.0 p.1 c.loop-j-test.true)

pub offset_bounds-cells-row : goal.offset_bounds-cells-row
offset_bounds-cells-row c = let p = c.requires in omega (arith, index_in _ _ _ _ p.0 p.1 c.loop-j-test.true)

pub bounds-cells-row : goal.bounds-cells-row
bounds-cells-row c = let p = c.requires in (index_in _ _ _ _ p.0 p.1 c.loop-j-test.true).0

pub overflow_add-asked : goal.overflow_add-asked
overflow_add-asked c = omega (arith, c.one_if-asked.ensures, ind-le (ltb 0 (get_or c.args.cells.now (c.args.i.0 * c.args.n + c.loop-j.j) 0)), c.requires.0.few)

pub loop-j-preserved : goal.loop-j-preserved
loop-j-preserved c =
    let a = c.args in
    let l = c.loop-j in
    let one = ind-le (ltb 0 (get_or a.cells.now (a.i.0 * a.n + l.j) 0)) in
    (omega arith, omega (arith, c.one_if-asked.ensures, l.invariant.1, sum-next l.j (λ b. ind (ltb 0 (get_or a.cells.now (a.i.0 * a.n + b) 0)))), omega (arith, c.one_if-asked.ensures, one))

pub returns : goal.returns
unfolding count cell
returns c =
    let a = c.args in
    let l = c.loop-j in
    let e : l.j ≡ a.n = omega arith in
    l.invariant.1 ∙ ap (λ (m : ℕ). sum m (λ b. ind (ltb 0 (get_or a.cells.now (a.i.0 * a.n + b) 0)))) e
