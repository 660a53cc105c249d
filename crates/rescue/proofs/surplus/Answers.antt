-- Up to k the slots granted beyond what is asked are summed, each below 2^32, so that 16,384 of them cannot wrap.
use mathlib.Core.Path.{◌≡◌, refl, sym, ap, ◌∙◌}
use Prim.Native.Nat.{ℕ, ◌*◌, ◌-◌}
use native.Mathlib.Nat.{mul-le-mul}
use native.Mathlib.Omega.{arith}
use lib.ListN.{get_or}
use Rattle.counting.specs.Sum.{sum}
use Rattle.counting.proofs.Sum.{sum-zero, sum-next}
use Rattle.switch.proofs.Empty.{beyond-cells}
use Rattle.rescue.proofs.surplus.Goals as goal

pub loop-k-init : goal.loop-k-init
loop-k-init c = (refl, omega arith, sym (sum-zero _), omega arith)

pub overflow_add-empty : goal.overflow_add-empty
overflow_add-empty c =
    let p = c.requires in
    omega (arith, c.loop-k.invariant.3, c.from-empty.ensures, c.saturating_sub.ensures, mul-le-mul p.0 p.0)

pub loop-k-preserved : goal.loop-k-preserved
loop-k-preserved c =
    let a = c.args in
    let l = c.loop-k in
    (l.invariant.0, omega arith, omega (arith, l.invariant.2, c.from-empty.ensures, c.saturating_sub.ensures, sum-next l.k (λ x. get_or a.grants.now x 0 - get_or a.cells.now x 0)), omega (arith, l.invariant.3))

pub returns : goal.returns
returns c =
    let a = c.args in
    let l = c.loop-k in
    let e : l.k ≡ a.n * a.n = omega (arith, c.requires.1) in
    (l.invariant.2 ∙ ap (λ (m : ℕ). sum m (λ x. get_or a.grants.now x 0 - get_or a.cells.now x 0)) e ∙ beyond-cells a.n a.cells.now a.grants.now, omega (arith, l.invariant.3, ap (λ (m : ℕ). m * 4294967295) e))
