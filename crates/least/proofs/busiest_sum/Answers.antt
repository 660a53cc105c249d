-- After w turns it is the most of the first w wavelengths.
use mathlib.Core.Path.{◌≡◌, sym, ap, ap₂, ◌∙◌}
use Prim.Native.Nat.{ℕ, max}
use native.Mathlib.Omega.{arith}
use Rattle.counting.specs.Sum.{most}
use Rattle.counting.proofs.Most.{most-zero, most-next}
use Rattle.switch.specs.Demand.{cell}
use Rattle.quiet_rule.specs.Limit.{band, busiest}
use Rattle.least.proofs.busiest_sum.Goals as goal

pub loop-w-init : goal.loop-w-init
loop-w-init c = sym (most-zero _)

pub loop-w-preserved : goal.loop-w-preserved
loop-w-preserved c = c.max-most.ensures ∙ ap₂ max c.loop-w.invariant c.band_sum.ensures ∙ sym (most-next _ _)

pub returns : goal.returns
unfolding busiest
returns c =
    let a = c.args in
    let l = c.loop-w in
    let e : l.w ≡ a.n = omega arith in
    l.invariant ∙ ap (λ (x : ℕ). most x (band a.n (cell a.n a.cells.now))) e
