-- No cell before k is granted less than asked, so what the scan from cell 0 finds is what the scan from cell k finds; and up to k the slots
-- granted beyond what is asked are summed, each below 2^32, so that 16,384 of them cannot wrap.
use mathlib.Core.Path.{◌≡◌}
use Prim.Native.Nat.{◌*◌, ◌-◌, ◌≤◌}
use lib.ListN.{get_or}
use Rattle.counting.specs.Sum.{sum}
use Rattle.switch.specs.Demand.{cell}
use Rattle.demand.specs.Lines.{over}
use Rattle.checker.specs.Check.{missing, uncovered}
use Rattle.checker.proofs.meet.Given as goal

abbrev pub invariant-loop-k : goal.invariant-loop-k
invariant-loop-k l = (uncovered l.n (cell l.n l.cells) (cell l.n l.grants) ≡ over 0 (missing l.n (cell l.n l.cells) (cell l.n l.grants)) (l.n * l.n - l.k) l.k)
    × (l.empty ≡ sum l.k (λ x. get_or l.grants x 0 - get_or l.cells x 0)) × (l.empty ≤ l.k * 4294967295)
