-- Each turn lays the record that it takes off behind those before it.
use mathlib.Core.Path.{◌≡◌}
use lib.ListN.{length}
use Rattle.quiet.specs.Taking.{leftover}
use Rattle.quiet.proofs.Running.{Running, Laying}
use Rattle.quiet.proofs.lay_records.Given as goal

abbrev pub invariant-loop-hold : goal.invariant-loop-hold
invariant-loop-hold l = record {
  running : Running l.n l.limit (leftover l.n l.limit l.initial.work) l.work l.rows l.laid.records;
  laying : Laying l.n l.limit (leftover l.n l.limit l.initial.work) l.initial.plan l.work l.plan l.laid.records l.at l.laid.total;
  long : length l.out ≡ 64;
}

abbrev pub decreases-loop-hold : goal.decreases-loop-hold
decreases-loop-hold l = length (leftover l.n l.limit l.work)
