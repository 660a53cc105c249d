-- Each turn gives one input its output of before; no two of them had the same.
use Prim.Native.Nat.{◌-◌, ◌≤◌}
use Rattle.matching.specs.Chosen.{Restored}
use Rattle.matching.proofs.restore.Given as goal

abbrev pub invariant-loop-k : goal.invariant-loop-k
invariant-loop-k l = (l.from ≤ l.k) × (l.k ≤ l.n) × Restored l.before l.initial.pairs.by l.initial.pairs.out l.from l.pairs.by l.pairs.out l.k

abbrev pub decreases-loop-k : goal.decreases-loop-k
decreases-loop-k l = l.n - l.k
