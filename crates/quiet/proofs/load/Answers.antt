-- The demand is copied in, and its rows labelled.
use native.Mathlib.Omega.{arith}
use lib.ListN.{length, drop}
use Rattle.board.proofs.Cells.{sized-as}
use Rattle.quiet.proofs.Planning.{copied}
use Rattle.quiet.proofs.load.Goals as goal

pub copy-requires : goal.copy-requires
copy-requires c = let p = c.requires in omega (arith, p.0.size, p.1.sized.room)

pub label_rows-requires : goal.label_rows-requires
label_rows-requires c =
    (sized-as c.args.n c.args.work.now c.copy.new.to c.copy.auto.to c.requires.1.sized, c.requires.1.each)

pub returns : goal.returns
returns c =
    let a = c.args in
    copied a.n a.cells.now (drop (length a.cells.now) a.work.now) c.requires.0 c.copy.new.to c.label_rows.new.rows
    c.copy.ensures (sized-as a.n a.work.now c.copy.new.to c.copy.auto.to c.requires.1.sized) c.label_rows.ensures
