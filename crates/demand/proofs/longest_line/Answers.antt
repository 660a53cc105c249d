-- After k turns it is the largest of the first k lines, and T is the largest of all 2n.
use mathlib.Core.Path.{◌≡◌, refl, sym, ap, ◌∙◌}
use Prim.Native.Nat.{ℕ, ◌+◌}
use native.Mathlib.Omega.{arith}
use Rattle.counting.specs.Sum.{most}
use Rattle.counting.proofs.Most.{most-zero, most-next}
use Rattle.switch.specs.Demand.{line}
use Rattle.switch.proofs.Demand.{longest-is}
use Rattle.demand.proofs.longest_line.Goals as goal

pub loop-k-init : goal.loop-k-init
loop-k-init c = (refl, omega arith, sym (most-zero _))

pub loop-k-preserved : goal.loop-k-preserved
loop-k-preserved c =
    let a = c.args in
    let l = c.loop-k in
    (refl, omega arith, omega (arith, c.line_sum.ensures, most-next l.k (line a.n a.cells.now)))

pub returns : goal.returns
returns c =
    let a = c.args in
    let l = c.loop-k in
    let e : l.k ≡ a.n + a.n = omega arith in
    l.invariant.2 ∙ ap (λ (x : ℕ). most x (line a.n a.cells.now)) e ∙ longest-is a.n a.cells.now
