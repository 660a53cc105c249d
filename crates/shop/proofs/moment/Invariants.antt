-- After j turns what is kept is the shop after the turns of the outputs below j.
use mathlib.Core.Path.{◌≡◌}
use Prim.Native.Nat.{◌-◌, ◌≤◌}
use lib.ListN.{length}
use Rattle.shop.proofs.Moments.{Kept}
use Rattle.shop.proofs.moment.Given as goal

abbrev pub invariant-loop-j : goal.invariant-loop-j
invariant-loop-j l = (l.j ≤ l.clock.n) × (l.j-end ≡ l.clock.n) × (length l.waiting ≡ 64) × (length l.ins ≡ 64) × (length l.outs ≡ 64)
    × Kept l.clock.n l.cells l.clock.d l.clock.t l.initial.waiting l.initial.ins l.initial.outs l.initial.tasks l.initial.so l.waiting l.ins l.outs l.tasks l.so l.j

abbrev pub decreases-loop-j : goal.decreases-loop-j
decreases-loop-j l = l.clock.n - l.j
