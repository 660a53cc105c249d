-- After k turns the first k cells are divided.
use mathlib.Core.Path.{◌≡◌}
use lib.ListN.{length, take}
use Rattle.rules.specs.Doubled.{divide}
use Rattle.records.specs.Bytes.{laid}
use Rattle.turns.proofs.quotients.Given as goal

abbrev pub invariant-loop-k : goal.invariant-loop-k
invariant-loop-k l = (length l.initial.work ≡ length l.cells) × (l.work ≡ laid l.initial.work 0 (take l.k (divide l.unit l.cells)))
