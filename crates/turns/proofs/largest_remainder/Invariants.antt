-- After i turns it is the largest remainder of the setting's first i pairs.
use mathlib.Core.Path.{◌≡◌}
use mathlib.Core.List.{List}
use Prim.Native.Nat.{ℕ, ◌%◌, ◌≤◌}
use Rattle.counting.specs.Sum.{most}
use Rattle.switch.specs.Demand.{cell}
use Rattle.turns.specs.declared.Turning.{Turning}
use Rattle.turns.specs.Second.{turn}
use Rattle.turns.proofs.largest_remainder.Given as goal

-- the remainder of input i's pair in setting k
abbrev pub left : Turning → ℕ → List ℕ → ℕ → ℕ → ℕ → ℕ
left t N d u k i = cell N d i (turn t N k i) % u

abbrev pub invariant-loop-i : goal.invariant-loop-i
invariant-loop-i l = (l.i ≤ l.n) × (l.largest ≡ most l.i (left l.way l.n l.cells l.unit l.k))
