-- The cells before that of the pair (i, j) are filled in order, and what each line still lacks is noted beside them.
use mathlib.Core.Path.{◌≡◌, ap, ◌∙◌}
use Prim.Native.Nat.{◌+◌, ◌*◌}
use native.Mathlib.Omega.{arith}
use lib.Arith.{digits_lt}
use Rattle.rules.specs.Fill.{fill_to}
use Rattle.board.proofs.Filling.{within-so-far, row_end, fill-fits, fill_step}
use Rattle.board.proofs.fill_row.Goals as goal

pub loop-j-init : goal.loop-j-init
loop-j-init c = λ T d f.
    let a = c.args in
    let z : a.i.0 * a.n ≡ a.i.0 * a.n + 0 = omega arith in
    (f.done ∙ ap (fill_to a.n T d) z, f.lacks)

pub fill_cell-requires : goal.fill_cell-requires
fill_cell-requires c =
    let a = c.args in
    let l = c.loop-j in
    let d = c.requires.1 in
    let g = l.invariant d.0 d.1 d.2 in
    let w = within-so-far d.2.demand (a.i.0 * a.n + l.j) (omega (arith, digits_lt {q = a.i.0} {m = a.n} {r = l.j} {c = a.n} c.requires.0 c.loop-j-test.true)) g.0 in
    record { sized = w.sized; input = c.requires.0; output = c.loop-j-test.true; lines = g.1.size; fits = fill-fits _ _ _ _ w g.1 _ _ c.requires.0 c.loop-j-test.true }

pub loop-j-preserved : goal.loop-j-preserved
loop-j-preserved c = λ T d f.
    let a = c.args in
    let l = c.loop-j in
    let g = l.invariant T d f in
    let q = c.fill_cell.ensures in
    let s = fill_step a.n T d _ _ a.i.0 l.j f.demand c.requires.0 c.loop-j-test.true (omega (arith, digits_lt {q = a.i.0} {m = a.n} {r = l.j} {c = a.n} c.requires.0 c.loop-j-test.true)) g.0 g.1 _ _ q.0 q.1 in
    let e : a.i.0 * a.n + l.j + 1 ≡ a.i.0 * a.n + (l.j + 1) = omega arith in
    (s.0 ∙ ap (fill_to a.n T d) e, s.1)

pub returns : goal.returns
returns c = λ T d f.
    let a = c.args in
    let g = c.loop-j.invariant T d f in
    record { demand = f.demand; done = g.0 ∙ ap (fill_to a.n T d) (row_end a.n a.i.0 c.loop-j.j (omega arith)); lacks = g.1 }
