-- After j turns it is the next finish of the first j outputs.
use mathlib.Core.Path.{◌≡◌}
use Prim.Native.Nat.{ℕ}
use lib.ListN.{get_or}
use Rattle.shop_rule.specs.Shop.{next}
use Rattle.shop.proofs.next_finish.Given as goal

abbrev pub invariant-loop-end : goal.invariant-loop-end
invariant-loop-end l = l.soonest ≡ next l.end-index l.t (λ (k : ℕ). get_or l.outs k 0)
