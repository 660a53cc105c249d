-- No record passed has a fault, and the pairs that those records name are marked; so the next record is judged as the definition judges it.
use Rattle.std.specs.Prelude.{Ok}
use mathlib.Core.Path.{◌≡◌}
use Prim.Native.Nat.{◌≤◌}
use lib.ListN.{length}
use Rattle.wishes.specs.Fault.{first_fault}
use Rattle.wishes.specs.Seen.{Seen}
use Rattle.wishes.proofs.first_fault.Given as goal

abbrev pub invariant-loop-k : goal.invariant-loop-k
invariant-loop-k l = (l.k ≤ l.count) × (length l.marks ≡ length l.initial.marks) × Seen l.n l.list l.k l.marks × (first_fault l.n l.list l.k ≡ Ok tt)
