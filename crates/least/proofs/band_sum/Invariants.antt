-- After i turns the sum is that of the first i inputs' cells, and at most i times the largest cell, so that it cannot wrap.
use mathlib.Core.Path.{◌≡◌}
use Prim.Native.Nat.{◌+◌, ◌*◌, ◌%◌, ◌≤◌}
use Rattle.counting.specs.Sum.{sum}
use Rattle.switch.specs.Demand.{cell}
use Rattle.least.proofs.band_sum.Given as goal

abbrev pub invariant-loop-i : goal.invariant-loop-i
invariant-loop-i l = (l.sum ≡ sum l.i (λ a. cell l.n l.cells a ((a + l.w) % l.n))) × (l.sum ≤ l.i * 4294967295)
