-- Input by input the setting in the making is what the rule's visits give.
use mathlib.Core.Path.{refl, sym, ◌∙◌}
use native.Mathlib.Omega.{arith}
use Rattle.switch.proofs.Demand.{blank-zeros}
use Rattle.quiet_setting.proofs.Visiting.{visit-first, visit-last}
use Rattle.quiet_setting.proofs.choose.Goals as goal

pub loop-i-init : goal.loop-i-init
loop-i-init c =
    let a = c.args in (
      omega arith,
      visit-first a.n a.limit a.rows.now _ _ _ c.requires.0 c.requires.1.few (omega (arith, c.requires.2, c.idle_all.auto)) (omega (arith, c.requires.1.few, (blank-zeros 64).room)) c.idle_all.ensures (blank-zeros 64).clear c.none.ensures c.none-2.ensures,
      refl,
      refl,
    )

pub slice_bounds-visit-end : goal.slice_bounds-visit-end
slice_bounds-visit-end c = sym c.loop-i.invariant.3

pub visit-busy-requires : goal.visit-busy-requires
visit-busy-requires c = (c.loop-i-test.true, c.requires.1, c.loop-i.invariant.1)

pub loop-i-preserved : goal.loop-i-preserved
loop-i-preserved c =
    let l = c.loop-i in
    (omega arith, c.visit-busy.ensures, c.visit-busy.auto.out ∙ l.invariant.2, c.visit-busy.auto.counts ∙ l.invariant.3)

pub returns : goal.returns
returns c = visit-last _ _ _ _ _ _ _ (omega (arith, c.loop-i.invariant.0)) c.loop-i.invariant.1
