-- After k turns the first k settings have their holds.
use mathlib.Core.Path.{◌≡◌}
use lib.ListN.{length, take}
use Rattle.rules.specs.Exact.{tab}
use Rattle.records.specs.Bytes.{laid}
use Rattle.turns.specs.Second.{holds_by}
use Rattle.turns.proofs.fill_holds.Given as goal

abbrev pub invariant-loop-k : goal.invariant-loop-k
invariant-loop-k l = (length l.initial.holds ≡ l.n) × (l.holds ≡ laid l.initial.holds 0 (take l.k (tab l.n 0 (holds_by l.rule l.way l.n l.cells l.unit))))
