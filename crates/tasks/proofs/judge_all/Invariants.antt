-- The times kept decide for each record as its definition does, so a record that fits leaves the scan to the later ones, and its end counts.
use mathlib.Core.Path.{◌≡◌}
use Prim.Native.Nat.{◌-◌, ◌/◌, max}
use lib.ListN.{length}
use Rattle.shop_rule.specs.Task as task
use Rattle.tasks.specs.Bytes.{tasks_from}
use Rattle.tasks.specs.Read.{faulty}
use Rattle.tasks.proofs.Pass.{Passed}
use Rattle.tasks.proofs.judge_all.Given as goal

abbrev pub invariant-loop-k : goal.invariant-loop-k
invariant-loop-k l =
    let m = length l.tasks / 12 in
    (faulty l.n l.tasks m 0 ≡ faulty l.n l.tasks (m - l.k) l.k) × (length l.ins ≡ 64) × (length l.outs ≡ 64)
    × Passed l.tasks l.k l.start l.least l.ins l.outs × (max l.latest (task.latest (tasks_from l.tasks l.k (m - l.k))) ≡ task.latest (tasks_from l.tasks 0 m))
