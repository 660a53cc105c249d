-- After j turns it is the next finish of the first j outputs.
use mathlib.Core.Path.{ap, ap₂, ◌∙◌}
use Prim.Native.Nat.{ℕ}
use native.Mathlib.Omega.{arith}
use lib.ListN.{get_or, length-take}
use Rattle.std.proofs.lemmas.List.{get_or-take}
use Rattle.shop_rule.specs.Shop.{sooner, next}
use Rattle.shop.proofs.Scans.{next-none, next_more}
use Rattle.shop.proofs.next_finish.Goals as goal

pub loop-end-init : goal.loop-end-init
loop-end-init c = next-none _ _

pub loop-end-preserved : goal.loop-end-preserved
loop-end-preserved c =
    let a = c.args in
    let l = c.loop-end in
    c.sooner_of-soonest.ensures
    ∙ ap₂ (sooner a.t) l.invariant (get_or-take a.n a.outs.now l.end-index 0 (omega (arith, c.loop-end-test.true, length-take a.n a.outs.now)))
    ∙ next_more l.end-index a.t (λ (k : ℕ). get_or a.outs.now k 0)

pub returns : goal.returns
returns c =
    let a = c.args in
    c.loop-end.invariant ∙ ap (λ (m : ℕ). next m a.t (λ (k : ℕ). get_or a.outs.now k 0)) (omega (arith, c.loop-end-test.false, c.loop-end.auto.end-index-end, length-take a.n a.outs.now))
