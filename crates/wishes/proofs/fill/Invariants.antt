-- The cells are the demand of the records passed, beginning with zeros.
use mathlib.Core.Path.{◌≡◌}
use Prim.Native.Nat.{◌≤◌}
use Rattle.wishes.specs.Wishes.{demand_of}
use Rattle.wishes.proofs.fill.Given as goal

abbrev pub invariant-loop-k : goal.invariant-loop-k
invariant-loop-k l = (l.k ≤ l.count) × (l.cells ≡ demand_of l.n l.list l.k)
