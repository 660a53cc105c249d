-- Input by input the setting in the making is what the rule's visits give.
use mathlib.Core.Path.{◌≡◌}
use Prim.Native.Nat.{◌≤◌, ◌-◌}
use lib.ListN.{length}
use Rattle.quiet_setting.specs.Choosing.{Choosing}
use Rattle.quiet_setting.proofs.choose.Given as goal

abbrev pub invariant-loop-i : goal.invariant-loop-i
invariant-loop-i l = (l.i ≤ l.n) × Choosing l.n l.limit l.rows l.i l.out l.counts l.busy × (length l.out ≡ length l.initial.out) × (length l.counts ≡ 64)

abbrev pub decreases-loop-i : goal.decreases-loop-i
decreases-loop-i l = l.n - l.i
