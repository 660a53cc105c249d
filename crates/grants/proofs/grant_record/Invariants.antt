-- Input by input the pair that it is joined to is granted the hold, in cells that are apart.
use Rattle.records.specs.Record.{decoded}
use Rattle.grants.proofs.Grant.{Partly}
use Rattle.grants.proofs.grant_record.Given as goal

abbrev pub invariant-loop-i : goal.invariant-loop-i
invariant-loop-i l = Partly l.n l.hold (decoded l.rec) l.initial.grants l.grants l.i
