-- Each turn notes what one line lacks; no line is over T, so nothing wraps.
use mathlib.Core.Path.{◌≡◌}
use Prim.Native.Nat.{ℕ, ◌-◌, ◌<◌}
use lib.ListN.{get_or}
use Rattle.switch.specs.Demand.{line}
use Rattle.board.proofs.measure.Given as goal

abbrev pub invariant-loop-k : goal.invariant-loop-k
invariant-loop-k l = (a : ℕ) → a < l.k → get_or l.lacking a 0 ≡ l.longest - line l.n l.cells a
