-- Each turn lays the pieces of one sum more behind those before it.
use lib.ListN.{drop}
use Rattle.tally.specs.Table.{entry_sums}
use Rattle.joining.specs.Join.{cut}
use Rattle.records.proofs.Laying.{Laying}
use Rattle.joining.proofs.lay_sums.Given as goal

abbrev pub invariant-loop-entry : goal.invariant-loop-entry
invariant-loop-entry l = Laying l.e.byte l.n l.initial.buffer 0 (cut (entry_sums l.e.width l.plan l.table)) l.buffer l.at (cut (entry_sums l.e.width l.plan (drop l.entry-index l.table)))
