-- As many inputs in front as can be keep their outputs; the others are seated around them and settled.
use lib.ListN.{length}
use Rattle.labels.specs.Ports.{outputs_of, inputs_of}
use Rattle.search.specs.Tables.{Allowed}
use Rattle.matching.proofs.Firm.{Firm}
use Rattle.matching.proofs.next_setting.Given as goal

abbrev pub invariant-loop-pairs : goal.invariant-loop-pairs
invariant-loop-pairs l = Firm 128 (length l.rows) (Allowed l.rows) l.initial.pairs.out l.initial.firm l.pairs.by l.pairs.out (outputs_of l.now.held) (inputs_of l.now.waiting) l.firm

abbrev pub decreases-loop-pairs : goal.decreases-loop-pairs
decreases-loop-pairs l = l.firm
