-- After j turns the sets of the outputs below j are theirs.
use native.Mathlib.Omega.{arith}
use lib.ListN.{length-set}
use Rattle.shop.proofs.Columns.{columns-more}
use Rattle.shop.proofs.label_columns.Goals as goal

pub loop-j-init : goal.loop-j-init
loop-j-init c = (omega arith, c.requires.2, λ a la. absurd (omega arith))

pub label_column-asks-requires : goal.label_column-asks-requires
label_column-asks-requires c = (c.requires.0, c.requires.1, c.loop-j-test.true)

pub bounds-waiting-j : goal.bounds-waiting-j
bounds-waiting-j c = omega (arith, c.loop-j.invariant.1, c.requires.0, c.loop-j-test.true)

pub loop-j-preserved : goal.loop-j-preserved
loop-j-preserved c =
    let l = c.loop-j in
    let lw = l.invariant.1 in
    (omega arith, simp length-set l.invariant.1, columns-more c.args.n c.args.cells.now l.waiting l.j _ (omega (arith, lw, c.requires.0, c.loop-j-test.true)) l.invariant.2 c.label_column-asks.ensures)

pub returns : goal.returns
returns c =
    let l = c.loop-j in
    (l.invariant.1, λ j lj. l.invariant.2 j (omega arith))
