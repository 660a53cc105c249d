-- After i turns the inputs below i have their labels.
use mathlib.Core.Path.{ap}
use native.Mathlib.Omega.{arith}
use lib.ListN.{length-set}
use lib.Seq.{get_or-set_same, get_or-set_other}
use Rattle.labels.specs.Ports.{outputs_of}
use Rattle.labels.specs.Rows.{nothing}
use Rattle.board.proofs.Labels.{begun-next}
use Rattle.board.proofs.label_rows.Goals as goal

pub loop-i-init : goal.loop-i-init
loop-i-init c = record { each = c.requires.1; row = λ k h. absurd (omega arith) }

pub label_row-requires : goal.label_row-requires
label_row-requires c = (c.requires.0, omega (arith, c.requires.1))

pub loop-i-preserved : goal.loop-i-preserved
loop-i-preserved c =
    let l = c.loop-i in
    begun-next _ _ _ _ _ _ l.invariant c.label_row.ensures
    (record {
      size = length-set l.rows l.i c.label_row.result;
      here = ap outputs_of (get_or-set_same l.rows l.i c.label_row.result nothing (omega arith));
      other = λ k e. ap outputs_of (get_or-set_other l.rows l.i k c.label_row.result nothing e);
    })

pub returns : goal.returns
returns c = let b = c.loop-i.invariant in record { each = b.each; row = λ k h. b.row k (omega (arith, b.each)) }
