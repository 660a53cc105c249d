-- The sum stays below the prime, so that it never wraps.
use Rattle.std.proofs.Common.{◌<◌}
use Rattle.vectors.proofs.show.checksum.Given as goal

abbrev pub invariant-loop-item : goal.invariant-loop-item
invariant-loop-item g l = l.sum < 4294967291
