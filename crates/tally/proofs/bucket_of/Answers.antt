-- The sum over groups of eight is what the definition folds, and a stirred number divided by the lower part is below the number of buckets.
use native.Mathlib.Omega.{arith}
use Rattle.tally.specs.Table.{stirred, bucket_of}
use Rattle.std.proofs.Common.{rules}
use Rattle.tally.proofs.bucket_of.Goals as goal

pub returns : goal.returns
unfolding bucket_of stirred
returns c = (search rules, omega arith)
