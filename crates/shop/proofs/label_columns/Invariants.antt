-- After j turns the sets of the outputs below j are theirs.
use mathlib.Core.Path.{◌≡◌}
use Prim.Native.Nat.{ℕ, ◌-◌, ◌≤◌, ◌<◌}
use lib.ListN.{length, get_or}
use Rattle.shop.specs.Kept.{Column}
use Rattle.shop.proofs.label_columns.Given as goal

abbrev pub invariant-loop-j : goal.invariant-loop-j
invariant-loop-j l = (l.j ≤ l.n) × (length l.waiting ≡ 64) × ((a : ℕ) → a < l.j → Column l.n l.n l.cells a (get_or l.waiting a 0))

abbrev pub decreases-loop-j : goal.decreases-loop-j
decreases-loop-j l = l.n - l.j
