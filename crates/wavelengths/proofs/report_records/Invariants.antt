-- After k turns the first k bytes are the numbers of the first k records.
use mathlib.Core.Path.{◌≡◌}
use Prim.Native.Nat.{ℕ, ◌<◌}
use lib.ListN.{get_or}
use Rattle.records.specs.Record.{decoded}
use Rattle.records.specs.Bytes.{record_at}
use Rattle.wavelengths.specs.Shared.{most_shared}
use Rattle.wavelengths.proofs.report_records.Given as goal

abbrev pub invariant-loop-k : goal.invariant-loop-k
invariant-loop-k l = (j : ℕ) → j < l.k → get_or l.report j 0 ≡ most_shared l.n (decoded (record_at l.width l.plan j))
