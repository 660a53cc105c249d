-- After i turns the first i outputs are the setting's.
use mathlib.Core.Path.{◌≡◌}
use lib.ListN.{length, take}
use Rattle.rules.specs.Exact.{tab}
use Rattle.records.specs.Bytes.{laid}
use Rattle.turns.specs.Second.{turn}
use Rattle.turns.proofs.fill_outputs.Given as goal

abbrev pub invariant-loop-i : goal.invariant-loop-i
invariant-loop-i l = (l.out ≡ laid l.initial.out 0 (take l.i (tab (length l.initial.out) 0 (turn l.way l.n l.k))))
