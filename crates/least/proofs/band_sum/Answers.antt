-- After i turns the sum is that of the first i inputs' cells, and at most i times the largest cell, so that it cannot wrap.
use mathlib.Core.Path.{◌≡◌, sym, ap, ◌∙◌}
use Prim.Native.Nat.{ℕ, ◌+◌, ◌%◌}
use native.Mathlib.Omega.{arith}
use lib.ListN.{get_or}
use Rattle.counting.specs.Sum.{sum}
use Rattle.counting.proofs.Sum.{sum-zero, sum-next}
use Rattle.switch.specs.Demand.{cell}
use Rattle.quiet_rule.specs.Limit.{band}
use Rattle.least.proofs.band_sum.Goals as goal

pub loop-i-init : goal.loop-i-init
loop-i-init c = (sym (sum-zero _), omega arith)

pub loop-i-preserved : goal.loop-i-preserved
unfolding cell
loop-i-preserved c =
    let a = c.args in
    let l = c.loop-i in (
      omega (arith, l.invariant.0, sum-next l.i (λ x. cell a.n a.cells.now x ((x + a.w) % a.n)), ap (λ (x : ℕ). get_or a.cells.now x 0) c.cell_at-at.ensures),
      omega arith,
    )

pub returns : goal.returns
unfolding band
returns c =
    let a = c.args in
    let l = c.loop-i in
    let e : l.i ≡ a.n = omega arith in
    l.invariant.0 ∙ ap (λ (m : ℕ). sum m (λ x. cell a.n a.cells.now x ((x + a.w) % a.n))) e
