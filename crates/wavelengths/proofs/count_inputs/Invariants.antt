-- Input by input the count of its wavelength grows by 1, and an idle input has none.
use Rattle.records.specs.Record.{decoded}
use Rattle.wavelengths.proofs.Shared.{Counted}
use Rattle.wavelengths.proofs.count_inputs.Given as goal

abbrev pub invariant-loop-i : goal.invariant-loop-i
invariant-loop-i l = Counted l.n (decoded l.rec) l.shares l.i
