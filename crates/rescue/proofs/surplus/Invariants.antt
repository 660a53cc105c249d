-- Up to k the slots granted beyond what is asked are summed, each below 2^32, so that 16,384 of them cannot wrap.
use mathlib.Core.Path.{◌≡◌}
use Prim.Native.Nat.{◌*◌, ◌-◌, ◌≤◌}
use lib.ListN.{length, get_or}
use Rattle.counting.specs.Sum.{sum}
use Rattle.rescue.proofs.surplus.Given as goal

abbrev pub invariant-loop-k : goal.invariant-loop-k
invariant-loop-k l = (l.k-end ≡ length l.cells) × (l.k ≤ length l.cells) × (l.empty ≡ sum l.k (λ x. get_or l.grants x 0 - get_or l.cells x 0)) × (l.empty ≤ l.k * 4294967295)

abbrev pub decreases-loop-k : goal.decreases-loop-k
decreases-loop-k l = length l.cells - l.k
