-- Row by row the sum grows by a line, of which none is over 65,535.
use mathlib.Core.Path.{◌≡◌, sym, ap, ◌∙◌}
use Prim.Native.Nat.{ℕ, ◌≤◌}
use native.Mathlib.Omega.{arith}
use Rattle.counting.specs.Sum.{sum}
use Rattle.counting.specs.Matrix.{row}
use Rattle.counting.proofs.Sum.{sum-zero, sum-next}
use Rattle.switch.specs.Demand.{cell}
use Rattle.switch.proofs.Demand.{line_row, row-le-longest}
use Rattle.switch.specs.Empty.{all_slots}
use Rattle.demand.proofs.asked_slots.Goals as goal

pub loop-i-init : goal.loop-i-init
loop-i-init c = (omega arith, sym (sum-zero (row c.args.n (cell c.args.n c.args.cells.now))), omega arith)

pub line_sum-asked-requires : goal.line_sum-asked-requires
line_sum-asked-requires c =
    (c.requires.sized, omega arith)

pub overflow_add-asked : goal.overflow_add-asked
overflow_add-asked c = let is_row : c.line_sum-asked.result ≡ row c.args.n (cell c.args.n c.args.cells.now) c.loop-i.i = c.line_sum-asked.ensures ∙ line_row c.args.n c.args.cells.now c.loop-i.i c.loop-i-test.true in
    let short : c.line_sum-asked.result ≤ 65535 = omega (
      arith,
      is_row,
      c.requires.lines,
      row-le-longest c.args.n (cell c.args.n c.args.cells.now) c.loop-i.i c.loop-i-test.true,
    ) in
    omega (arith, short, c.requires.sized.few)

pub loop-i-preserved : goal.loop-i-preserved
loop-i-preserved c =
    let is_row : c.line_sum-asked.result ≡ row c.args.n (cell c.args.n c.args.cells.now) c.loop-i.i = c.line_sum-asked.ensures ∙ line_row c.args.n c.args.cells.now c.loop-i.i c.loop-i-test.true in
    let short : c.line_sum-asked.result ≤ 65535 = omega (
      arith,
      is_row,
      c.requires.lines,
      row-le-longest c.args.n (cell c.args.n c.args.cells.now) c.loop-i.i c.loop-i-test.true,
    ) in
    let l = c.loop-i in
    (omega arith, omega (arith, is_row, l.invariant.1, sum-next l.i (row c.args.n (cell c.args.n c.args.cells.now))), omega (arith, short))

pub returns : goal.returns
unfolding all_slots
returns c =
    let l = c.loop-i in
    let n = c.args.n in
    let e : l.i ≡ n = omega arith in
    l.invariant.1 ∙ ap (λ (k : ℕ). sum k (row n (cell n c.args.cells.now))) e
