-- Each turn takes one record off, and those that are done and those that are still to come are the whole plan.
use mathlib.Core.Path.{◌≡◌}
use lib.ListN.{length}
use Rattle.quiet.specs.Taking.{leftover}
use Rattle.quiet.proofs.Running.{Running}
use Rattle.quiet.proofs.count_records.Given as goal

abbrev pub invariant-loop-records : goal.invariant-loop-records
invariant-loop-records l = record {
  running : Running l.n l.limit (leftover l.n l.limit l.initial.work) l.work l.rows l.records;
  long : length l.out ≡ 64;
}

abbrev pub decreases-loop-records : goal.decreases-loop-records
decreases-loop-records l = length (leftover l.n l.limit l.work)
