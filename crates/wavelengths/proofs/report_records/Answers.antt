-- After k turns the first k bytes are the numbers of the first k records.
use native.Mathlib.Omega.{arith}
use Rattle.wavelengths.proofs.Report.{report-each}
use Rattle.wavelengths.proofs.report_records.Goals as goal

pub returns : goal.returns
returns c = let l = c.loop-k in report-each _ _ _ _ l.report (omega arith) (λ k h. l.invariant k (omega arith))
